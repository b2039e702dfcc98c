-- Copies that are longer than what counts.
use Rattle.std.proofs.Common.{◌≡◌, ℕ, zero, suc, ◌+◌, ◌<◌, ◌≤◌, ◌++◌, List, [], ◌∷◌, map, take, drop, length, refl, sym, ap, ◌∙◌, arith, length-take-le}
use Rattle.std.specs.Prelude.{slice_get, slice_set, slice_index_or}
use Rattle.std.proofs.Math.Seq.{take-append-add}
use Rattle.std.proofs.lemmas.List.{take-take, get_or_default}
use Rattle.std.proofs.lemmas.List.Edits.{map_over_more}

-- where the first `most` bytes of the text come after the first `end`, its first `count` do
pub fewer : (now old text : List ℕ) (end count most : ℕ) → end ≤ length old → count ≤ most → take (end + most) now ≡ take end old ++ take most text → take (end + count) now ≡ take end old ++ take count text
fewer now old text end count most inside less h =
    let front = take end old in
    let long : length front ≡ end = length-take-le end old inside in
    sym (take-take (end + count) (end + most) now (omega (arith, less))) ∙ ap (λ z. take (end + count) z) h ∙ ap (λ n. take (n + count) (front ++ take most text)) (sym long)
    ∙ take-append-add front (take most text) count ∙ ap (λ z. front ++ z) (take-take count most text less)

-- one more byte is replaced by the one at its place in the table
pub replaced_more : (table xs ys : List ℕ) (i : ℕ) → i < length xs → i < length ys → slice_index_or ys i 0 < length table → ys ≡ map (λ b. slice_index_or table b b) (take i xs) ++ drop i xs →
    slice_set ys i (slice_index_or table (slice_index_or ys i 0) 0) ≡ map (λ b. slice_index_or table b b) (take (i + 1) xs) ++ drop (i + 1) xs
replaced_more table xs ys i inside long whole h =
    let b = slice_index_or ys i 0 in
    ap (λ z. slice_set ys i z) (get_or_default table b 0 b whole) ∙ map_over_more (λ b. slice_index_or table b b) xs ys i b inside h (get_or_default ys i 0 b long)

-- what is at a place is first from there on
pub first_of_drop : {A : Type 0} (xs : List A) (n : ℕ) → slice_get (drop n xs) 0 ≡ slice_get xs n
first_of_drop [] zero = refl
first_of_drop [] (suc n) = refl
first_of_drop (x ∷ xs) zero = refl
first_of_drop (x ∷ xs) (suc n) = first_of_drop xs n
