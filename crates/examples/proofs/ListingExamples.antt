-- The definition of a listing computes.
use Rattle.std.proofs.Common.{◌≡◌, [], ◌∷◌, ◌++◌, replicate, refl}
use Rattle.std.specs.Prelude.{codes}
use Rattle.sedengine.specs.Listing.{listed}

-- 70 bytes `a`: a piece of 69, and the last one
example_folded : listed (replicate 70 97) ≡ replicate 69 97 ++ 92 ∷ 10 ∷ 97 ∷ 36 ∷ 10 ∷ []
unfolding listed
example_folded = refl

-- 69 bytes `a`: the `$` causes no fold
example_full : listed (replicate 69 97) ≡ replicate 69 97 ++ 36 ∷ 10 ∷ []
unfolding listed
example_full = refl

-- 68 bytes `a` and a tab: its item is not cut
example_uncut : listed (replicate 68 97 ++ 9 ∷ []) ≡ replicate 68 97 ++ 92 ∷ 10 ∷ 92 ∷ 116 ∷ 36 ∷ 10 ∷ []
unfolding listed
example_uncut = refl

-- a tab and the byte 200
example_octal : listed (9 ∷ 200 ∷ []) ≡ 92 ∷ 116 ∷ 92 ∷ 51 ∷ 49 ∷ 48 ∷ 36 ∷ 10 ∷ []
unfolding listed
example_octal = refl

-- no byte
example_empty : listed [] ≡ 36 ∷ 10 ∷ []
unfolding listed
example_empty = refl

-- a backslash and an embedded newline
example_newline : listed (92 ∷ 10 ∷ []) ≡ 92 ∷ 92 ∷ 92 ∷ 110 ∷ 36 ∷ 10 ∷ []
unfolding listed
example_newline = refl

-- the other bytes of the table that have an escape
example_escapes : listed (7 ∷ 8 ∷ 12 ∷ 13 ∷ 9 ∷ 11 ∷ []) ≡ codes "\\a\\b\\f\\r\\t\\v$\n"
unfolding listed
example_escapes = refl

-- the other bytes that aren't printed, with leading zeros
example_leading_zeros : listed (0 ∷ 27 ∷ 127 ∷ []) ≡ codes "\\000\\033\\177$\n"
unfolding listed
example_leading_zeros = refl

-- bytes that are printed, from the least to the greatest
example_printed : listed (codes " $~") ≡ codes " $~$\n"
unfolding listed
example_printed = refl
