-- What sinks gain, by parts.
use Rattle.std.proofs.Common.{◌≡◌, ◌≢◌, ℕ, suc, zero, ◌<◌, ◌⊎◌, inl, inr, true, false, cond, List, [], ◌∷◌, ◌++◌, length, take, Option, Some, None, refl, sym, ap, ◌∙◌, append_assoc, append-nil, arith, rules}
use Rattle.std.specs.Prelude.{nat_eq, slice_get}
use Rattle.std.proofs.lemmas.Bool.Decides.{nat_tests}
use Rattle.std.specs.Io.KnownBytes.{Appends, Keeps}
use Rattle.sedacts.specs.Move.{to_sink}
use Rattle.sedacts.specs.Ends.{bytes_of_sink, SinksGain}

pub part-append : (k : ℕ) (xs ys : List (ℕ × ℕ)) → bytes_of_sink k (xs ++ ys) ≡ bytes_of_sink k xs ++ bytes_of_sink k ys
part-append k [] ys = refl
part-append k ((sink, byte) ∷ xs) ys =
    elim (nat_eq sink k) as (λ b. cond b (byte ∷ bytes_of_sink k (xs ++ ys)) (bytes_of_sink k (xs ++ ys)) ≡ cond b (byte ∷ bytes_of_sink k xs) (bytes_of_sink k xs) ++ bytes_of_sink k ys)
    [ true ↦ ap (λ l. byte ∷ l) (part-append k xs ys) | false ↦ part-append k xs ys ]

pub part-same : (k : ℕ) (bs : List ℕ) → bytes_of_sink k (to_sink k bs) ≡ bs
part-same k [] = refl
part-same k (b ∷ bs) = let h = part-same k bs in grind (arith, nat_tests)

pub part-other : (s k : ℕ) (bs : List ℕ) → s ≢ k → bytes_of_sink k (to_sink s bs) ≡ []
part-other s k [] h = refl
part-other s k (b ∷ bs) h = let i = part-other s k bs h in grind (arith, nat_tests)

Appends-append : (old mid new : Option (List ℕ)) (xs ys : List ℕ) → Appends old mid xs → Appends mid new ys → Appends old new (xs ++ ys)
Appends-append None mid new xs ys a b = tt
Appends-append (Some o) None new xs ys a b = absurd a
Appends-append (Some o) (Some m) None xs ys a b = absurd b
Appends-append (Some o) (Some m) (Some n) xs ys a b = b ∙ ap (λ l. l ++ ys) a ∙ append_assoc o xs ys

Appends-none : (old new : Option (List ℕ)) → Keeps old new → Appends old new []
Appends-none None new h = tt
Appends-none (Some xs) None h = absurd h
Appends-none (Some xs) (Some ys) h = h ∙ sym (append-nil xs)

Keeps-same : (old : Option (List ℕ)) → Keeps old old
Keeps-same None = tt
Keeps-same (Some xs) = refl

-- one gain after another
pub SinksGain-append : {old mid new : ℕ → Option (List ℕ)} {xs ys : List (ℕ × ℕ)} → SinksGain old mid xs → SinksGain mid new ys → SinksGain old new (xs ++ ys)
SinksGain-append {old} {mid} {new} {xs} {ys} a b = record {
  each = λ k. rw (part-append k xs ys) (Appends-append (old k) (mid k) (new k) _ _ (a.each k) (b.each k));
}

pub SinksGain-none : (old : ℕ → Option (List ℕ)) → SinksGain old old []
SinksGain-none old = record { each = λ k. Appends-none (old k) (old k) (Keeps-same (old k)) }

pub same_or_not : (s k : ℕ) → (s ≡ k) ⊎ (s ≢ k)
same_or_not zero zero = inl refl
same_or_not zero (suc k) = inr (λ e. absurd (omega (arith, e)))
same_or_not (suc s) zero = inr (λ e. absurd (omega (arith, e)))
same_or_not (suc s) (suc k) = elim (same_or_not s k) [ inl e ↦ inl (ap suc e) | inr d ↦ inr (λ e. d (omega (arith, e))) ]

at_sink : (old new : ℕ → Option (List ℕ)) (s k : ℕ) (bs : List ℕ) → Appends (old s) (new s) bs → ((j : ℕ) → j ≢ s → Keeps (old j) (new j)) →
    (s ≡ k) ⊎ (s ≢ k) → Appends (old k) (new k) (bytes_of_sink k (to_sink s bs))
at_sink old new s k bs h others (inl same) = rw (← same, part-same) h
at_sink old new s k bs h others (inr other) = rw (part-other s k bs other) (Appends-none (old k) (new k) (others k (λ e. other (sym e))))

-- the bytes for one sink are appended there, and nothing anywhere else
pub SinksGain-one : (old new : ℕ → Option (List ℕ)) (s : ℕ) (bs : List ℕ) → Appends (old s) (new s) bs → ((j : ℕ) → j ≢ s → Keeps (old j) (new j)) → SinksGain old new (to_sink s bs)
SinksGain-one old new s bs h others = record { each = λ k. at_sink old new s k bs h others (same_or_not s k) }

pub to_sink-append : (k : ℕ) (xs ys : List ℕ) → to_sink k (xs ++ ys) ≡ to_sink k xs ++ to_sink k ys
to_sink-append k [] ys = refl
to_sink-append k (x ∷ xs) ys = ap (λ l. (k, x) ∷ l) (to_sink-append k xs ys)

pub take-to_sink : (k n : ℕ) (xs : List ℕ) → take n (to_sink k xs) ≡ to_sink k (take n xs)
take-to_sink k zero xs = search rules
take-to_sink k (suc n) [] = refl
take-to_sink k (suc n) (x ∷ xs) = ap (λ l. (k, x) ∷ l) (take-to_sink k n xs)

pub slice_get-to_sink : (k n : ℕ) (xs : List ℕ) → n < length xs → (b : ℕ) × (slice_get (to_sink k xs) n ≡ Some (k, b))
slice_get-to_sink k n [] h = absurd (omega arith)
slice_get-to_sink k zero (x ∷ xs) h = (x, refl)
slice_get-to_sink k (suc n) (x ∷ xs) h = slice_get-to_sink k n xs (omega arith)
