-- The examples of matching that XBD 9.1, 9.3.6, 9.3.8, 9.4.6, 9.4.7 and 9.4.9 give, computed from the expressions' texts.
use Rattle.std.proofs.Common.{◌∷◌, [], Some, None, refl}
use Rattle.std.specs.Prelude.{codes}
use Rattle.sedre.specs.declared.types.Kind.TheVariants.{Basic, Extended}
use Rattle.examples.proofs.ComputedSearch.{Finds, FindsNothing, search, finds, finds_nothing}

-- XBD 9.1

second_to_fourth : Finds Basic (codes "bb*") (codes "abbbc") 0 (1, 4) []
unfolding search
second_to_fourth = finds refl

all_ten_characters : Finds Extended (codes "(wee|week)(knights|night)") (codes "weeknights") 0 (0, 10) (Some (0, 3) ∷ Some (3, 10) ∷ [])
unfolding search
all_ten_characters = finds refl

longest_subpattern : Finds Basic (codes "\\(.*\\).*") (codes "abcdef") 0 (0, 6) (Some (0, 6) ∷ [])
unfolding search
longest_subpattern = finds refl

null_string_before_no_match : Finds Basic (codes "\\(a*\\)*") (codes "bc") 0 (0, 0) (Some (0, 0) ∷ [])
unfolding search
null_string_before_no_match = finds refl

-- XBD 9.3.6

three_copies : Finds Basic (codes "c\\{3\\}") (codes "abababccccccd") 0 (6, 9) []
unfolding search
three_copies = finds refl

four_copies_at_least : FindsNothing Basic (codes "\\(ab\\)\\{4,\\}") (codes "abababccccccd") 0
unfolding search
four_copies_at_least = finds_nothing refl

one_to_three_copies : Finds Basic (codes "c\\{1,3\\}d") (codes "abababccccccd") 0 (9, 13) []
unfolding search
one_to_three_copies = finds refl

-- XBD 9.3.8

at_the_beginning : Finds Basic (codes "^ab") (codes "abcdef") 0 (0, 2) []
unfolding search
at_the_beginning = finds refl

not_at_the_beginning : FindsNothing Basic (codes "^ab") (codes "cdefab") 0
unfolding search
not_at_the_beginning = finds_nothing refl

at_the_end : Finds Basic (codes "ab$") (codes "cdefab") 0 (4, 6) []
unfolding search
at_the_end = finds refl

not_at_the_end : FindsNothing Basic (codes "ab$") (codes "abcdef") 0
unfolding search
not_at_the_end = finds_nothing refl

whole_string : Finds Basic (codes "^abcdef$") (codes "abcdef") 0 (0, 6) []
unfolding search
whole_string = finds refl

-- XBD 9.4.6

fourth_to_seventh : Finds Extended (codes "b+(bc)") (codes "acabbbcde") 0 (3, 7) (Some (5, 7) ∷ [])
unfolding search
fourth_to_seventh = finds refl

first_character : Finds Extended (codes "b*c") (codes "cabbbcde") 0 (0, 1) []
unfolding search
first_character = finds refl

third_to_seventh : Finds Extended (codes "b*cd") (codes "cabbbcde") 0 (2, 7) []
unfolding search
third_to_seventh = finds refl

second_character : Finds Extended (codes "b?c") (codes "acabbbcde") 0 (1, 2) []
unfolding search
second_character = finds refl

seven_to_nine : Finds Extended (codes "c{3}") (codes "abababccccccd") 0 (6, 9) []
unfolding search
seven_to_nine = finds refl

one_to_six : Finds Extended (codes "(ab){2,}") (codes "abababccccccd") 0 (0, 6) (Some (4, 6) ∷ [])
unfolding search
one_to_six = finds refl

-- XBD 9.4.7

first_alternative : Finds Extended (codes "a((bc)|d)") (codes "abc") 0 (0, 3) (Some (1, 3) ∷ Some (1, 3) ∷ [])
unfolding search
first_alternative = finds refl

second_alternative : Finds Extended (codes "a((bc)|d)") (codes "ad") 0 (0, 2) (Some (1, 2) ∷ None ∷ [])
unfolding search
second_alternative = finds refl

-- XBD 9.4.9

anchor_in_a_group : Finds Extended (codes "(^ab)") (codes "abcdef") 0 (0, 2) (Some (0, 2) ∷ [])
unfolding search
anchor_in_a_group = finds refl

not_at_the_beginning_in_a_group : FindsNothing Extended (codes "(^ab)") (codes "cdefab") 0
unfolding search
not_at_the_beginning_in_a_group = finds_nothing refl

end_in_a_group : Finds Extended (codes "(ab$)") (codes "cdefab") 0 (4, 6) (Some (4, 6) ∷ [])
unfolding search
end_in_a_group = finds refl

not_at_the_end_in_a_group : FindsNothing Extended (codes "(ab$)") (codes "abcdef") 0
unfolding search
not_at_the_end_in_a_group = finds_nothing refl

caret_never_within : FindsNothing Extended (codes "a^b") (codes "ab") 0
unfolding search
caret_never_within = finds_nothing refl

dollar_never_within : FindsNothing Extended (codes "a$b") (codes "ab") 0
unfolding search
dollar_never_within = finds_nothing refl
