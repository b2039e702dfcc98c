-- The places of a byte that no backslash escapes.
use Rattle.std.proofs.Common.{◌≡◌, ℕ, zero, suc, ◌+◌, ◌-◌, ◌<◌, ◌≤◌, ◌==◌, ◌%◌, ◌⊎◌, inl, inr, Bool, true, false, if◌then◌else◌, List, [], ◌∷◌, length, take, drop, Option, Some, slice_get, refl, sym, ap, ◌∙◌, arith}
use Rattle.std.proofs.lemmas.Bool.{eqb-true, eqb-false}
use Rattle.examples.specs.Backslashes.{backslashes, IsUnescaped, NoneUnescaped}

-- how many backslashes come directly before the byte after this one
abbrev pub next : ℕ → ℕ → ℕ
next n b = if b == 92 then suc n else 0

-- the byte is at a place of a list, with an even number of backslashes before it, where so many come before the list
pub record Free (byte n : ℕ) (bs : List ℕ) (k : ℕ) : Type 0 where
  pub stands : slice_get bs k ≡ Some byte
  pub even : backslashes n (take k bs) % 2 ≡ 0

-- a place of a list before which there is no such byte: one is there, or, if that may be, the list ends
pub record Reaches (may_end : Bool) (byte n : ℕ) (bs : List ℕ) (at to : ℕ) : Type 0 where
  pub k : ℕ
  pub place : to ≡ at + k
  pub within : k ≤ length bs
  pub last : ((may_end ≡ true) × (k ≡ length bs)) ⊎ Free byte n bs k
  pub none : (j : ℕ) → j < k → Free byte n bs j → ⊥

pub reaches_end : (byte n at to : ℕ) → to ≡ at → Reaches true byte n [] at to
reaches_end byte n at to e = record { k = 0; place = omega (arith, e); within = omega arith; last = inl (refl, refl); none = λ j h f. omega (arith, h) }

pub reaches_here : (may_end : Bool) (byte n at to b : ℕ) (bs : List ℕ) → to ≡ at → b ≡ byte → n % 2 ≡ 0 → Reaches may_end byte n (b ∷ bs) at to
reaches_here may_end byte n at to b bs e is even = record {
  k = 0;
  place = omega (arith, e);
  within = omega arith;
  last = inr (record { stands = ap (λ (x : ℕ). Some x) is; even = even });
  none = λ j h f. omega (arith, h);
}

pub reaches_later : (may_end : Bool) (byte n at to b : ℕ) (bs : List ℕ) → (b ≡ byte → n % 2 ≡ 0 → ⊥) → Reaches may_end byte (next n b) bs (suc at) to → Reaches may_end byte n (b ∷ bs) at to
reaches_later may_end byte n at to b bs other r = record {
  k = suc r.k;
  place = omega (arith, r.place);
  within = omega (arith, r.within);
  last = by_last r.last;
  none = before;
}
  where
    by_last : ((may_end ≡ true) × (r.k ≡ length bs)) ⊎ Free byte (next n b) bs r.k → ((may_end ≡ true) × (suc r.k ≡ suc (length bs))) ⊎ Free byte n (b ∷ bs) (suc r.k)
    by_last (inl e) = inl (e.0, ap suc e.1)
    by_last (inr f) = inr (record { stands = f.stands; even = f.even })

    before : (j : ℕ) → j < suc r.k → Free byte n (b ∷ bs) j → ⊥
    before zero h f = let e : ◌≡◌ {A = Option ℕ} (Some b) (Some byte) = f.stands in other (cc) f.even
    before (suc j) h f = r.none j (omega (arith, h)) (record { stands = f.stands; even = f.even })

-- ---- of a text

pub get_drop : (xs : List ℕ) (n k : ℕ) → slice_get (drop n xs) k ≡ slice_get xs (n + k)
get_drop xs zero k = let e : 0 + k ≡ k = omega arith in ap (slice_get xs) (sym e)
get_drop [] (suc n) k = let e : suc n + k ≡ suc (n + k) = omega arith in sym (ap (slice_get {X = ℕ} []) e)
get_drop (x ∷ xs) (suc n) k = let e : suc n + k ≡ suc (n + k) = omega arith in get_drop xs n k ∙ sym (ap (slice_get (x ∷ xs)) e)

pub free_between : (byte : ℕ) (text : List ℕ) (from at k : ℕ) → at ≡ from + k → IsUnescaped byte text from at → Free byte 0 (drop from text) k
free_between byte text from at k e u = record {
  stands = get_drop text from k ∙ (ap (slice_get text) (sym e) ∙ u.stands);
  even = let d : at - from ≡ k = omega (arith, e) in sym (ap (λ (m : ℕ). backslashes 0 (take m (drop from text)) % 2) d) ∙ u.even;
}

pub between_free : (byte : ℕ) (text : List ℕ) (from at k : ℕ) → at ≡ from + k → Free byte 0 (drop from text) k → IsUnescaped byte text from at
between_free byte text from at k e f = record {
  stands = ap (slice_get text) e ∙ (sym (get_drop text from k) ∙ f.stands);
  even = let d : at - from ≡ k = omega (arith, e) in ap (λ (m : ℕ). backslashes 0 (take m (drop from text)) % 2) d ∙ f.even;
}

pub nothing_before : (may_end : Bool) (byte : ℕ) (text : List ℕ) (from to : ℕ) → Reaches may_end byte 0 (drop from text) from to → NoneUnescaped byte text from to
nothing_before may_end byte text from to r = λ at low high u.
    r.none (at - from) (omega (arith, low, high, r.place)) (free_between byte text from at (at - from) (omega (arith, low)) u)

pub nested_last : (may_end : Bool) (byte : ℕ) (text : List ℕ) (from to : ℕ) → Reaches may_end byte 0 (drop from text) from to → ((may_end ≡ true) × (length (drop from text) + from ≡ to)) ⊎ IsUnescaped byte text from to
nested_last may_end byte text from to r = by_last r.last
  where
    by_last : ((may_end ≡ true) × (r.k ≡ length (drop from text))) ⊎ Free byte 0 (drop from text) r.k → ((may_end ≡ true) × (length (drop from text) + from ≡ to)) ⊎ IsUnescaped byte text from to
    by_last (inl e) = inl (e.0, omega (arith, e.1, r.place))
    by_last (inr f) = inr (between_free byte text from to r.k r.place f)

pub odd_more : (n : ℕ) → n % 2 ≡ 0 → suc n % 2 ≡ 1
odd_more n h = omega arith

pub even_more : (n : ℕ) → n % 2 ≡ 1 → suc n % 2 ≡ 0
even_more n h = omega arith

-- ---- one byte after the other

pub same_byte : (a b : ℕ) → ◌≡◌ {A = Option ℕ} (Some a) (Some b) → a ≡ b
same_byte a b e = cc

pub behind : (byte n b k : ℕ) (bs : List ℕ) → Free byte n (b ∷ bs) (suc k) → Free byte (next n b) bs k
behind byte n b k bs f = record { stands = f.stands; even = f.even }

pub onto : (byte n b k : ℕ) (bs : List ℕ) → Free byte (next n b) bs k → Free byte n (b ∷ bs) (suc k)
onto byte n b k bs f = record { stands = f.stands; even = f.even }

-- another byte comes first
pub not_first : (byte n b : ℕ) (bs : List ℕ) → (b == byte) ≡ false → Free byte n (b ∷ bs) 0 → ⊥
not_first byte n b bs is f = eqb-false b byte is (same_byte b byte f.stands)

-- none occurs so right after a backslash that none escapes
pub escaped_first : (byte n b c : ℕ) (cs : List ℕ) → (b == 92) ≡ true → n % 2 ≡ 0 → Free byte (next n b) (c ∷ cs) 0 → ⊥
escaped_first byte n b c cs is even f =
    let odd : next n b % 2 ≡ 1 = rw is (odd_more n even) in
    let no : ◌≡◌ {A = ℕ} 1 0 = sym odd ∙ f.even in cc

pub even_again : (n b c : ℕ) → (b == 92) ≡ true → n % 2 ≡ 0 → next (next n b) c % 2 ≡ 0
even_again n b c is even = rw is (by_test (c == 92))
  where
    by_test : (t : Bool) → (if t then suc (suc n) else 0) % 2 ≡ 0
    by_test true = even_more (suc n) (odd_more n even)
    by_test false = refl

pub even_plain : (n b : ℕ) → (b == 92) ≡ false → next n b % 2 ≡ 0
even_plain n b is = rw is refl

pub backslash_here : (n b : ℕ) (bs : List ℕ) → (b == 92) ≡ true → n % 2 ≡ 0 → Free 92 n (b ∷ bs) 0
backslash_here n b bs is even = record { stands = ap (λ (x : ℕ). Some x) (eqb-true b 92 is); even = even }
