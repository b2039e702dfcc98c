-- What sinks gain that are counted, by parts.
use Rattle.std.proofs.Common.{◌≡◌, ◌≢◌, ℕ, ◌+◌, ◌⊎◌, inl, inr, List, [], ◌++◌, length, Option, Some, None, refl, sym, arith, length-append, ◌<◌, min}
use Rattle.std.specs.Io.KnownBytes.{Appends, Keeps}
use Rattle.sedacts.specs.Move.{to_sink}
use Rattle.sedacts.specs.Ends.{bytes_of_sink}
use Rattle.sedacts.specs.Meters.{GrowsBy, WereSent, SinkView}
use Rattle.sedacts.proofs.Gains.{SinksGain-append, SinksGain-none, SinksGain-one, part-append, part-same, part-other, same_or_not}

GrowsBy-append : (a b c : Option ℕ) (m n : ℕ) → GrowsBy a b m → GrowsBy b c n → GrowsBy a c (m + n)
GrowsBy-append None b c m n h i = tt
GrowsBy-append (Some x) None c m n h i = absurd h
GrowsBy-append (Some x) (Some y) None m n h i = absurd i
GrowsBy-append (Some x) (Some y) (Some z) m n h i = omega (arith, h, i)

GrowsBy-none : (a : Option ℕ) → GrowsBy a a 0
GrowsBy-none None = tt
GrowsBy-none (Some x) = omega arith

length-part : (k : ℕ) (xs ys : List (ℕ × ℕ)) → length (bytes_of_sink k (xs ++ ys)) ≡ length (bytes_of_sink k xs) + length (bytes_of_sink k ys)
length-part k xs ys = rw (part-append, length-append) refl

-- one gain after another
pub WereSent-append : {old mid new : SinkView} {xs ys : List (ℕ × ℕ)} → WereSent old mid xs → WereSent mid new ys → WereSent old new (xs ++ ys)
WereSent-append {old} {mid} {new} {xs} {ys} a b = record {
  gained = SinksGain-append a.gained b.gained;
  counts = λ k. rw (length-part k xs ys) (GrowsBy-append (old.sent k) (mid.sent k) (new.sent k) _ _ (a.counts k) (b.counts k));
}

pub WereSent-none : (old : SinkView) → WereSent old old []
WereSent-none old = record { gained = SinksGain-none old.contents; counts = λ k. GrowsBy-none (old.sent k) }

counts_at : (old new : ℕ → Option ℕ) (s k : ℕ) (bs : List ℕ) → GrowsBy (old s) (new s) (length bs) → ((j : ℕ) → j ≢ s → new j ≡ old j) → (s ≡ k) ⊎ (s ≢ k) → GrowsBy (old k) (new k) (length (bytes_of_sink k (to_sink s bs)))
counts_at old new s k bs h others (inl same) = rw (← same, part-same) h
counts_at old new s k bs h others (inr other) = rw (part-other s k bs other, others k (λ e. other (sym e))) (GrowsBy-none (old k))

-- the bytes for one sink are appended and counted there, and nothing anywhere else
pub WereSent-one : (old new : SinkView) (s : ℕ) (bs : List ℕ) → Appends (old.contents s) (new.contents s) bs → ((j : ℕ) → j ≢ s → Keeps (old.contents j) (new.contents j)) →
    GrowsBy (old.sent s) (new.sent s) (length bs) → ((j : ℕ) → j ≢ s → new.sent j ≡ old.sent j) → WereSent old new (to_sink s bs)
WereSent-one old new s bs h others counts uncounted = record {
  gained = SinksGain-one old.contents new.contents s bs h others;
  counts = λ k. counts_at old.sent new.sent s k bs counts uncounted (same_or_not s k);
}

pub below_both : {k m n : ℕ} → k < min m n → (k < m) × (k < n)
below_both h = (grind (arith, h), grind (arith, h))
