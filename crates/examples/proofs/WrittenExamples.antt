-- Examples of what expressions are written out to (XBD 9.3.6, 9.4.4, 9.4.6, 9.4.7), computed by the grammar.
use Rattle.std.proofs.Common.{◌≡◌, true, false, None, refl}
use Rattle.std.specs.Prelude.{codes}
use Rattle.sedre.specs.declared.types.Kind.TheVariants.{Basic, Extended}
use Rattle.sedre.specs.Tree.{null_string, sequence, either_of, grouped, any_copies, one_or_none}
use Rattle.sedre.specs.Grammar.{depth, ReadsAs}
use Rattle.sedre.specs.Tokens.{token_at, front_interval}
use Rattle.examples.proofs.ComputedReading.{outcome, rest_of, reads_as}
use Rattle.examples.proofs.ExampleWords.{a, b, c, Counts, counted}

-- Concatenations and alternations: of three parts the first comes before the other two.

null_string_basic : ReadsAs Basic false None (codes "") null_string 0
unfolding outcome rest_of token_at
null_string_basic = reads_as refl

null_string_extended : ReadsAs Extended false None (codes "") null_string 0
unfolding outcome rest_of token_at
null_string_extended = reads_as refl

concatenation_of_three : ReadsAs Basic false None (codes "abc") (sequence a (sequence b c)) 0
unfolding outcome rest_of token_at
concatenation_of_three = reads_as refl

alternation_of_three : ReadsAs Extended false None (codes "a|b|c") (either_of a (either_of b c)) 0
unfolding outcome rest_of token_at
alternation_of_three = reads_as refl

alternation_binds_less : ReadsAs Extended false None (codes "ab|c") (either_of (sequence a b) c) 0
unfolding outcome rest_of token_at
alternation_binds_less = reads_as refl

group_of_an_alternation : ReadsAs Extended false None (codes "(a|b)c") (sequence (grouped 1 (either_of a b)) c) 1
unfolding outcome rest_of token_at
group_of_an_alternation = reads_as refl

-- A repetition by its symbol or its interval. The mark of a star or an option says that no copy comes before it.

any_number : ReadsAs Extended false None (codes "a*") (any_copies a true) 0
unfolding outcome rest_of token_at
any_number = reads_as refl

at_least_zero : ReadsAs Extended false None (codes "a{0,}") (any_copies a true) 0
unfolding outcome rest_of token_at front_interval
at_least_zero = reads_as refl

one_or_more : ReadsAs Extended false None (codes "a+") (sequence a (any_copies a false)) 0
unfolding outcome rest_of token_at
one_or_more = reads_as refl

at_least_one : ReadsAs Extended false None (codes "a{1,}") (sequence a (any_copies a false)) 0
unfolding outcome rest_of token_at front_interval
at_least_one = reads_as refl

at_most_one : ReadsAs Extended false None (codes "a?") (one_or_none a true) 0
unfolding outcome rest_of token_at
at_most_one = reads_as refl

zero_to_one : ReadsAs Extended false None (codes "a{0,1}") (one_or_none a true) 0
unfolding outcome rest_of token_at front_interval
zero_to_one = reads_as refl

exactly_zero : ReadsAs Extended false None (codes "a{0}") null_string 0
unfolding outcome rest_of token_at front_interval
exactly_zero = reads_as refl

zero_to_zero : ReadsAs Extended false None (codes "a{0,0}") null_string 0
unfolding outcome rest_of token_at front_interval
zero_to_zero = reads_as refl

exactly_one : ReadsAs Extended false None (codes "a{1}") a 0
unfolding outcome rest_of token_at front_interval
exactly_one = reads_as refl

one_to_one : ReadsAs Extended false None (codes "a{1,1}") a 0
unfolding outcome rest_of token_at front_interval
one_to_one = reads_as refl

exactly_three : ReadsAs Extended false None (codes "a{3}") (sequence a (sequence a a)) 0
unfolding outcome rest_of token_at front_interval
exactly_three = reads_as refl

three_to_three : ReadsAs Extended false None (codes "a{3,3}") (sequence a (sequence a a)) 0
unfolding outcome rest_of token_at front_interval
three_to_three = reads_as refl

at_least_two : ReadsAs Extended false None (codes "a{2,}") (sequence a (sequence a (any_copies a false))) 0
unfolding outcome rest_of token_at front_interval
at_least_two = reads_as refl

zero_to_two : ReadsAs Extended false None (codes "a{0,2}") (one_or_none (sequence a (one_or_none a false)) true) 0
unfolding outcome rest_of token_at front_interval
zero_to_two = reads_as refl

zero_to_three : ReadsAs Extended false None (codes "a{0,3}") (one_or_none (sequence a (one_or_none (sequence a (one_or_none a false)) false)) true) 0
unfolding outcome rest_of token_at front_interval
zero_to_three = reads_as refl

one_to_two : ReadsAs Extended false None (codes "a{1,2}") (sequence a (one_or_none a false)) 0
unfolding outcome rest_of token_at front_interval
one_to_two = reads_as refl

one_to_three : ReadsAs Extended false None (codes "a{1,3}") (sequence a (one_or_none (sequence a (one_or_none a false)) false)) 0
unfolding outcome rest_of token_at front_interval
one_to_three = reads_as refl

two_to_three : ReadsAs Extended false None (codes "a{2,3}") (sequence a (sequence a (one_or_none a false))) 0
unfolding outcome rest_of token_at front_interval
two_to_three = reads_as refl

-- The same of basic expressions, where one or more and at most one are this project's own.

any_number_basic : ReadsAs Basic false None (codes "a*") (any_copies a true) 0
unfolding outcome rest_of token_at
any_number_basic = reads_as refl

one_or_more_basic : ReadsAs Basic false None (codes "a\\+") (sequence a (any_copies a false)) 0
unfolding outcome rest_of token_at
one_or_more_basic = reads_as refl

at_most_one_basic : ReadsAs Basic false None (codes "a\\?") (one_or_none a true) 0
unfolding outcome rest_of token_at
at_most_one_basic = reads_as refl

exactly_two_basic : ReadsAs Basic false None (codes "a\\{2\\}") (sequence a a) 0
unfolding outcome rest_of token_at front_interval
exactly_two_basic = reads_as refl

at_least_two_basic : ReadsAs Basic false None (codes "a\\{2,\\}") (sequence a (sequence a (any_copies a false))) 0
unfolding outcome rest_of token_at front_interval
at_least_two_basic = reads_as refl

two_to_three_basic : ReadsAs Basic false None (codes "a\\{2,3\\}") (sequence a (sequence a (one_or_none a false))) 0
unfolding outcome rest_of token_at front_interval
two_to_three_basic = reads_as refl

-- The copies and what follows them are one element of the concatenation in which the repetition occurs.

copies_are_one_element : ReadsAs Extended false None (codes "ba{2}c") (sequence b (sequence (sequence a a) c)) 0
unfolding outcome rest_of token_at front_interval
copies_are_one_element = reads_as refl

options_are_one_element : ReadsAs Extended false None (codes "ba{0,2}c") (sequence b (sequence (one_or_none (sequence a (one_or_none a false)) true) c)) 0
unfolding outcome rest_of token_at front_interval
options_are_one_element = reads_as refl

repeated_group : ReadsAs Extended false None (codes "(a*)+") (sequence (grouped 1 (any_copies a true)) (any_copies (grouped 1 (any_copies a true)) false)) 1
unfolding outcome rest_of token_at
repeated_group = reads_as refl

-- Groups keep their numbers, also where a repetition leaves no copy of them.

numbered_by_openings : ReadsAs Extended false None (codes "((a)(b))(c)") (sequence (grouped 1 (sequence (grouped 2 a) (grouped 3 b))) (grouped 4 c)) 4
unfolding outcome rest_of token_at
numbered_by_openings = reads_as refl

numbered_by_openings_basic : ReadsAs Basic false None (codes "\\(\\(a\\)b\\)\\(c\\)") (sequence (grouped 1 (sequence (grouped 2 a) b)) (grouped 3 c)) 3
unfolding outcome rest_of token_at
numbered_by_openings_basic = reads_as refl

no_copy_keeps_the_numbers : ReadsAs Extended false None (codes "(a){0}(b)") (sequence null_string (grouped 2 b)) 2
unfolding outcome rest_of token_at front_interval
no_copy_keeps_the_numbers = reads_as refl

copies_have_one_number : ReadsAs Extended false None (codes "(a){2}") (sequence (grouped 1 a) (grouped 1 a)) 1
unfolding outcome rest_of token_at front_interval
copies_have_one_number = reads_as refl

-- How many nodes an expression has when it is written out, and how many groups.

counts_null_string_basic : Counts Basic (codes "") 1 0
unfolding outcome rest_of token_at
counts_null_string_basic = counted refl

counts_null_string_extended : Counts Extended (codes "") 1 0
unfolding outcome rest_of token_at
counts_null_string_extended = counted refl

counts_group_and_rest : Counts Basic (codes "\\(.*\\).*") 6 1
unfolding outcome rest_of token_at
counts_group_and_rest = counted refl

counts_literal_star : Counts Basic (codes "^*ab") 7 0
unfolding outcome rest_of token_at
counts_literal_star = counted refl

counts_twice_repeated : Counts Basic (codes "a**") 3 0
unfolding outcome rest_of token_at
counts_twice_repeated = counted refl

counts_one_or_more : Counts Extended (codes "a+") 4 0
unfolding outcome rest_of token_at
counts_one_or_more = counted refl

counts_two_to_three : Counts Extended (codes "a{2,3}") 6 0
unfolding outcome rest_of token_at front_interval
counts_two_to_three = counted refl

counts_repeated_group : Counts Extended (codes "(a*)+") 8 1
unfolding outcome rest_of token_at
counts_repeated_group = counted refl

counts_empty_group : Counts Extended (codes "()") 2 1
unfolding outcome rest_of token_at
counts_empty_group = counted refl

counts_no_copy : Counts Extended (codes "(a){0}") 1 1
unfolding outcome rest_of token_at front_interval
counts_no_copy = counted refl

counts_255_options : Counts Extended (codes "x{0,255}") 764 0
unfolding outcome rest_of token_at front_interval
counts_255_options = counted refl

-- How deep an expression nests: a group and a repetition add one, an alternation adds one for all its alternatives, a
-- concatenation nothing.

depth_of_a_concatenation : depth (sequence a (sequence b c)) ≡ 0
depth_of_a_concatenation = refl

depth_of_a_group : depth (grouped 1 a) ≡ 1
depth_of_a_group = refl

depth_of_a_repetition : depth (sequence a (any_copies a false)) ≡ 1
depth_of_a_repetition = refl

depth_of_an_option : depth (one_or_none a true) ≡ 1
depth_of_an_option = refl

depth_of_three_alternatives : depth (either_of a (either_of b c)) ≡ 1
depth_of_three_alternatives = refl

depth_of_an_alternation_in_another : depth (either_of a (grouped 1 (either_of b c))) ≡ 3
depth_of_an_alternation_in_another = refl
