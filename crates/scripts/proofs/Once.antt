-- Strings that have no byte twice, as a computation.
use Rattle.std.proofs.Common.{◌≡◌, ℕ, suc, List, [], ◌∷◌, Bool, true, false, not, ◌&&◌, ◌||◌, Some, refl, ap, arith}
use Rattle.std.specs.Prelude.{◌==◌, slice_get}
use Rattle.std.proofs.lemmas.Bool.{eqb-true}
use Rattle.std.proofs.lemmas.Bool.Decides.{nat_tests}
use Rattle.sedscript.specs.Strings.{is_among}
use Rattle.examples.specs.Strings.{NoneTwice}

-- no byte occurs twice among these, nor does one of those that come before them
abbrev pub each_once : (before : List ℕ) → List ℕ → Bool
each_once before [] = true
each_once before (b ∷ bs) = not (is_among before b) && each_once (b ∷ before) bs

place_of : (s : List ℕ) (b : ℕ) → is_among s b ≡ true → (k : ℕ) × (slice_get s k ≡ Some b)
place_of [] b h = absurd cc
place_of (x ∷ s) b h = by_test (place_of s b) (x == b) refl h
  where
    by_test : (is_among s b ≡ true → (k : ℕ) × (slice_get s k ≡ Some b)) → (t : Bool) → (x == b) ≡ t → (t || is_among s b) ≡ true → (k : ℕ) × (slice_get (x ∷ s) k ≡ Some b)
    by_test on true is h = (0, ap (λ b. Some b) (eqb-true x b is))
    by_test on false is h = let there = on h in (suc there.0, there.1)

once_after : (before s : List ℕ) → ((b : ℕ) → is_among s b ≡ true → is_among before b ≡ false) → NoneTwice s → each_once before s ≡ true
once_after before [] apart once = refl
once_after before (x ∷ s) apart once =
    let same : (x == x) ≡ true = grind (arith, nat_tests) in
    let first : is_among before x ≡ false = apart x (rw same refl) in
    rw first (once_after (x ∷ before) s others (λ i j b at_i at_j. let equal = once (suc i) (suc j) b at_i at_j in omega (arith, equal)))
  where
    by_test : (b : ℕ) (t : Bool) → (x == b) ≡ t → is_among s b ≡ true → (t || is_among before b) ≡ false
    by_test b true is h = (let there = place_of s b h in let equal = once 0 (suc there.0) b (ap (λ b. Some b) (eqb-true x b is)) there.1 in absurd (omega (arith, equal)))
    by_test b false is h = apart b (later (x == b) h)
      where
        later : (t : Bool) → is_among s b ≡ true → (t || is_among s b) ≡ true
        later true h = refl
        later false h = h

    others : (b : ℕ) → is_among s b ≡ true → is_among (x ∷ before) b ≡ false
    others b h = by_test b (x == b) refl h

pub once_of : (s : List ℕ) → NoneTwice s → each_once [] s ≡ true
once_of s once = once_after [] s (λ b h. refl) once
