-- Examples of the spans that groups report, computed from the text of an extended expression.
use Rattle.std.proofs.Common.{◌∷◌, [], Some, None, refl}
use Rattle.std.specs.Prelude.{codes}
use Rattle.sedre.specs.declared.types.Kind.TheVariants.{Extended}
use Rattle.examples.proofs.ComputedSearch.{Finds, FindsNothing, search, finds, finds_nothing}

-- A group in a repetition reports its last copy, and an empty one only where there is no other (this project's own).

copies_that_must_stand : Finds Extended (codes "(a*)+") (codes "aa") 0 (0, 2) (Some (0, 2) ∷ [])
unfolding search
copies_that_must_stand = finds refl

one_empty_copy : Finds Extended (codes "(a*)*") (codes "b") 0 (0, 0) (Some (0, 0) ∷ [])
unfolding search
one_empty_copy = finds refl

no_empty_copy_after_another : Finds Extended (codes "(a){0,2}") (codes "a") 0 (0, 1) (Some (0, 1) ∷ [])
unfolding search
no_empty_copy_after_another = finds refl

group_of_the_last_copy : Finds Extended (codes "((a*)b)*") (codes "abb") 0 (0, 3) (Some (2, 3) ∷ Some (2, 2) ∷ [])
unfolding search
group_of_the_last_copy = finds refl

caret_of_the_empty_text : Finds Extended (codes "(^)*") [] 0 (0, 0) (Some (0, 0) ∷ [])
unfolding search
caret_of_the_empty_text = finds refl

caret_after_the_beginning : Finds Extended (codes "(^)*") (codes "a") 1 (1, 1) (None ∷ [])
unfolding search
caret_after_the_beginning = finds refl

-- Of two parts the left one takes the longest that leaves the right one a match.

longest_left_part : Finds Extended (codes "(a|ab)(c|bcd)(d*)") (codes "abcd") 0 (0, 4) (Some (0, 2) ∷ Some (2, 3) ∷ Some (3, 4) ∷ [])
unfolding search
longest_left_part = finds refl

-- The groups of an earlier copy are forgotten (this project's own).

earlier_copy_forgotten : Finds Extended (codes "((a)|b)*") (codes "ab") 0 (0, 2) (Some (1, 2) ∷ None ∷ [])
unfolding search
earlier_copy_forgotten = finds refl

copies_within_one_copy : Finds Extended (codes "((a|b)*)*") (codes "ab") 0 (0, 2) (Some (0, 2) ∷ Some (1, 2) ∷ [])
unfolding search
copies_within_one_copy = finds refl

-- The group of an alternative that doesn't match has no span.

other_alternative : Finds Extended (codes "(a)|(b)") (codes "b") 0 (0, 1) (None ∷ Some (0, 1) ∷ [])
unfolding search
other_alternative = finds refl

-- Of two alternatives that both span it, the first one does (this project's own).

first_of_two_alternatives : Finds Extended (codes "a|(a)") (codes "a") 0 (0, 1) (None ∷ [])
unfolding search
first_of_two_alternatives = finds refl

-- An empty copy forgets the groups within, as any other does (this project's own).

empty_copy_forgets : Finds Extended (codes "(a)**{2}") (codes "a") 0 (0, 1) (None ∷ [])
unfolding search
empty_copy_forgets = finds refl

-- The second copy, where it is required, is empty; an optional one isn't taken.

second_of_two_copies : Finds Extended (codes "(a*){2}") (codes "a") 0 (0, 1) (Some (1, 1) ∷ [])
unfolding search
second_of_two_copies = finds refl

second_of_two_copies_at_least : Finds Extended (codes "(a*){2,}") (codes "a") 0 (0, 1) (Some (1, 1) ∷ [])
unfolding search
second_of_two_copies_at_least = finds refl

one_of_one_to_two_copies : Finds Extended (codes "(a*){1,2}") (codes "a") 0 (0, 1) (Some (0, 1) ∷ [])
unfolding search
one_of_one_to_two_copies = finds refl

one_of_zero_to_two_copies : Finds Extended (codes "(a*){0,2}") (codes "a") 0 (0, 1) (Some (0, 1) ∷ [])
unfolding search
one_of_zero_to_two_copies = finds refl

one_empty_copy_of_an_option : Finds Extended (codes "(a*)?") (codes "b") 0 (0, 0) (Some (0, 0) ∷ [])
unfolding search
one_empty_copy_of_an_option = finds refl

-- Stars in stars.

stars_in_stars : Finds Extended (codes "((a*)*)*b") (codes "aaab") 0 (0, 4) (Some (0, 3) ∷ Some (0, 3) ∷ [])
unfolding search
stars_in_stars = finds refl

stars_in_stars_without_their_end : FindsNothing Extended (codes "((a*)*)*b") (codes "aaa") 0
unfolding search
stars_in_stars_without_their_end = finds_nothing refl
