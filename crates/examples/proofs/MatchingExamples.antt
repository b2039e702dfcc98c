-- The computed definitions compute.
use Rattle.std.proofs.Common.{◌≡◌, true, [], ◌∷◌, Some, None, refl}
use Rattle.sedre.specs.Sets.{set_of}
use Rattle.sedre.specs.Tree.{sequence, either_of, grouped, any_copies}
use Rattle.sedmatch.specs.Matching.{any, greatest, copies, spans, longest, found_from, leftmost_longest, greatest_cut, first_copy, last_start, groups_after, reported_groups}
use Rattle.examples.proofs.ExampleWords.{byte}

-- aa* at xaab
example_found : leftmost_longest (sequence (byte 97) (any_copies (byte 97) true)) (120 ∷ 97 ∷ 97 ∷ 98 ∷ []) 0 ≡ Some (1, 3)
unfolding any greatest copies spans longest found_from leftmost_longest set_of
example_found = refl

example_none : leftmost_longest (sequence (byte 97) (byte 99)) (120 ∷ 97 ∷ 97 ∷ 98 ∷ []) 0 ≡ None
unfolding any greatest copies spans longest found_from leftmost_longest set_of
example_none = refl

-- \(a\|ab\)\(c\|bcd\)\(d*\) on abcd
example_groups : reported_groups (sequence (grouped 1 (either_of (byte 97) (sequence (byte 97) (byte 98)))) (sequence (grouped 2 (either_of (byte 99) (sequence (byte 98) (sequence (byte 99) (byte 100))))) (grouped 3 (any_copies (byte 100) true)))) (97 ∷ 98 ∷ 99 ∷ 100 ∷ []) 0 4
    ≡ Some (0, 4) ∷ Some (0, 2) ∷ Some (2, 3) ∷ Some (3, 4) ∷ None ∷ None ∷ None ∷ None ∷ None ∷ None ∷ []
unfolding any greatest copies spans greatest_cut first_copy last_start groups_after reported_groups set_of
example_groups = refl
