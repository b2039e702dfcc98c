-- Where a string between delimiters ends.
use Rattle.std.proofs.Common.{◌≡◌, ℕ, suc, ◌+◌, ◌≤◌, ◌==◌, ◌%◌, ◌⊎◌, inl, inr, ◌&&◌, not, Bool, true, false, if◌then◌else◌, List, [], ◌∷◌, length, drop, Option, Some, None, refl, arith}
use Rattle.std.proofs.lemmas.Bool.{eqb-true, eqb-false}
use Rattle.sedscript.specs.Strings.{string_end}
use Rattle.examples.specs.Backslashes.{IsUnescaped, NoneUnescaped}
use Rattle.examples.proofs.BackslashLemmas.{Reaches, reaches_here, reaches_later, next, nothing_before, nested_last, odd_more, even_more}

-- a byte is escaped exactly where an odd number of backslashes comes before it
abbrev Fits : Bool → ℕ → Type 0
Fits true n = n % 2 ≡ 1
Fits false n = n % 2 ≡ 0

fits_plain : (n b : ℕ) → Fits false n → Fits (b == 92) (next n b)
fits_plain n b h = by_test (b == 92)
  where
    by_test : (t : Bool) → Fits t (if t then suc n else 0)
    by_test true = odd_more n h
    by_test false = refl

fits_escaped : (n b : ℕ) → Fits true n → Fits false (next n b)
fits_escaped n b h = by_test (b == 92)
  where
    by_test : (t : Bool) → Fits false (if t then suc n else 0)
    by_test true = even_more n h
    by_test false = refl

odd_even : (n : ℕ) → n % 2 ≡ 1 → n % 2 ≡ 0 → ⊥
odd_even n f even = omega arith

by_newline : (s : Bool) (rest : Option ℕ) (to : ℕ) (P : Type 0) → (if s then None else rest) ≡ Some to → (rest ≡ Some to → P) → P
by_newline true rest to P e h = let x : ◌≡◌ {A = Option ℕ} None (Some to) = e in absurd (cc)
by_newline false rest to P e h = h e

by_delimiter : (t : Bool) (byte at n to b : ℕ) (bs : List ℕ) (rest : Option ℕ) → (b == byte) ≡ t → n % 2 ≡ 0 → (if t then Some at else rest) ≡ Some to →
    (rest ≡ Some to → Reaches false byte (next n b) bs (suc at) to) → Reaches false byte n (b ∷ bs) at to
by_delimiter true byte at n to b bs rest is f e h = let x : ◌≡◌ {A = Option ℕ} (Some at) (Some to) = e in reaches_here false byte n at to b bs (cc) (eqb-true b byte is) f
by_delimiter false byte at n to b bs rest is f e h = reaches_later false byte n at to b bs (λ same even. eqb-false b byte is same) (h e)

string_reaches : (breaks escaped : Bool) (byte at n to : ℕ) (bs : List ℕ) → Fits escaped n → string_end breaks byte escaped at bs ≡ Some to → Reaches false byte n bs at to
string_reaches breaks escaped byte at n to [] f e = let x : ◌≡◌ {A = Option ℕ} None (Some to) = e in absurd (cc)
string_reaches breaks true byte at n to (b ∷ bs) f e =
    by_newline (b == 10 && not (breaks && true)) (string_end breaks byte false (suc at) bs) to (Reaches false byte n (b ∷ bs) at to) e (λ r.
    reaches_later false byte n at to b bs (λ is even. odd_even n f even) (string_reaches breaks false byte (suc at) (next n b) to bs (fits_escaped n b f) r))
string_reaches breaks false byte at n to (b ∷ bs) f e =
    by_newline (b == 10 && not (breaks && false)) (if b == byte then Some at else string_end breaks byte (b == 92) (suc at) bs) to (Reaches false byte n (b ∷ bs) at to) e (λ r.
    by_delimiter (b == byte) byte at n to b bs (string_end breaks byte (b == 92) (suc at) bs) refl f r (λ q.
    string_reaches breaks (b == 92) byte (suc at) (next n b) to bs (fits_plain n b f) q))

pub string_ends : (script : List ℕ) (breaks : Bool) (delimiter from to : ℕ) → string_end breaks delimiter false from (drop from script) ≡ Some to →
    (from ≤ to) × IsUnescaped delimiter script from to × NoneUnescaped delimiter script from to
string_ends script breaks delimiter from to e =
    let r : Reaches false delimiter 0 (drop from script) from to = string_reaches breaks false delimiter from 0 to (drop from script) refl e in
    (omega (arith, r.place), by_last (nested_last false delimiter script from to r), nothing_before false delimiter script from to r)
  where
    by_last : ((false ≡ true) × (length (drop from script) + from ≡ to)) ⊎ IsUnescaped delimiter script from to → IsUnescaped delimiter script from to
    by_last (inl e) = let no : ◌≡◌ {A = Bool} false true = e.0 in absurd (cc)
    by_last (inr u) = u
