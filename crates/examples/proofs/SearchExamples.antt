-- Examples of the leftmost-longest match (XBD 9.1), computed from the text of an extended expression.
use Rattle.std.proofs.Common.{◌∷◌, [], Some, refl}
use Rattle.std.specs.Prelude.{codes}
use Rattle.sedre.specs.declared.types.Kind.TheVariants.{Extended}
use Rattle.examples.proofs.ComputedSearch.{Finds, FindsNothing, search, finds, finds_nothing}

-- It is the longest of those that begin first.

longest_alternative : Finds Extended (codes "a|ab") (codes "ab") 0 (0, 2) []
unfolding search
longest_alternative = finds refl

leftmost_before_longest : Finds Extended (codes "b*") (codes "abb") 0 (0, 0) []
unfolding search
leftmost_before_longest = finds refl

no_copy_before_a_later_one : Finds Extended (codes "b*") (codes "ab") 0 (0, 0) []
unfolding search
no_copy_before_a_later_one = finds refl

-- No copies match at once, wherever the search begins, also at the end.

no_copies_at_the_beginning : Finds Extended (codes "x*") (codes "abc") 0 (0, 0) []
unfolding search
no_copies_at_the_beginning = finds refl

no_copies_within : Finds Extended (codes "x*") (codes "abc") 1 (1, 1) []
unfolding search
no_copies_within = finds refl

no_copies_at_the_end : Finds Extended (codes "x*") (codes "abc") 3 (3, 3) []
unfolding search
no_copies_at_the_end = finds refl

-- An empty expression and an empty group match the null string.

empty_expression : Finds Extended (codes "") (codes "a") 0 (0, 0) []
unfolding search
empty_expression = finds refl

empty_group : Finds Extended (codes "()") (codes "a") 0 (0, 0) (Some (0, 0) ∷ [])
unfolding search
empty_group = finds refl

-- The anchors hold at the beginning and at the end of the whole text alone, wherever the search begins.

caret_after_the_beginning : FindsNothing Extended (codes "^a") (codes "aaa") 1
unfolding search
caret_after_the_beginning = finds_nothing refl

dollar_at_the_end : Finds Extended (codes "b$") (codes "ab") 0 (1, 2) []
unfolding search
dollar_at_the_end = finds refl

caret_within : FindsNothing Extended (codes "a^b") (codes "ab") 0
unfolding search
caret_within = finds_nothing refl

anchors_of_the_empty_text : Finds Extended (codes "$^") [] 0 (0, 0) []
unfolding search
anchors_of_the_empty_text = finds refl

no_copies_of_a_caret : Finds Extended (codes "(^)*") (codes "a") 1 (1, 1) []
unfolding search
no_copies_of_a_caret = finds refl

-- A . doesn't match the byte 0; a bracket expression may.

nul_and_any_byte : FindsNothing Extended (codes ".") (0 ∷ []) 0
unfolding search
nul_and_any_byte = finds_nothing refl

nul_in_a_list : Finds Extended (codes "[^a]") (0 ∷ []) 0 (0, 1) []
unfolding search
nul_in_a_list = finds refl
