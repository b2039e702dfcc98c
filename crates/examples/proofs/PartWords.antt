-- Parts of a script whose bytes are known, over any allocator.
use Rattle.std.proofs.Common.{◌≡◌, ◌<◌, ◌^◌, ℕ, zero, suc, ◌&&◌, Bool, true, List, [], ◌∷◌, String, Global, get_or, length, arith}
use Rattle.std.specs.Prelude.{nat_lt}
use Rattle.std.specs.List.{list_all}
use Rattle.std.proofs.StringFromBytes.{spelled}
use Rattle.std.proofs.lemmas.Bool.{ltb-true}
use Rattle.std.proofs.lemmas.Str.{IsUtf8-from_ascii}
use Rattle.sedfiles.specs.declared.asked.Part.{Part}
use Rattle.sedfiles.specs.declared.asked.Part.TheVariants.{File, Script}
use Rattle.examples.proofs.ComputedEnds.{both}

pub each_low : (bs : List ℕ) → list_all (λ b. nat_lt b 128) bs ≡ true → (i : ℕ) → get_or bs i 0 < 128
each_low [] low i = nothing i
  where
    nothing : (i : ℕ) → get_or [] i 0 < 128
    nothing zero = omega arith
    nothing (suc i) = omega arith
each_low (b ∷ bs) low zero = ltb-true b 128 (both (nat_lt b 128) (list_all (λ b. nat_lt b 128) bs) low).0
each_low (b ∷ bs) low (suc i) = each_low bs (both (nat_lt b 128) (list_all (λ b. nat_lt b 128) bs) low).1 i

-- bytes of ASCII, and not many
abbrev pub is_word : List ℕ → Bool
is_word bs = list_all (λ b. nat_lt b 128) bs && nat_lt (length bs) 1000

pub short : (bs : List ℕ) → nat_lt (length bs) 1000 ≡ true → length bs < 2 ^ 63
short bs few = let h = ltb-true (length bs) 1000 few in omega (arith, h)

-- a string of these bytes
abbrev pub word : Global → (bs : List ℕ) → is_word bs ≡ true → String Global
word heap bs is =
    let h = both (list_all (λ b. nat_lt b 128) bs) (nat_lt (length bs) 1000) is in
    spelled heap bs ∣ IsUtf8-from_ascii bs (each_low bs h.0) ∣₁ (short bs h.1)

-- the part with this script, and the one with a file of this name
abbrev pub text : Global → (bs : List ℕ) → is_word bs ≡ true → Part
text heap bs is = Script (word heap bs is)

abbrev pub file : Global → (bs : List ℕ) → is_word bs ≡ true → Part
file heap bs is = File (word heap bs is)
