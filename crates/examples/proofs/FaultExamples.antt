-- Examples of the faults of expressions (XBD 9.3, 9.4) with their places, computed by the grammar. Which fault a text
-- has, and where, is this project's own.
use Rattle.std.proofs.Common.{Some, None, refl}
use Rattle.std.specs.Prelude.{codes}
use Rattle.sedre.specs.declared.types.Kind.TheVariants.{Basic, Extended}
use Rattle.sedre.specs.declared.types.ExprReason.TheVariants.{OpenBracket, UnknownClass, LongCollating, BadRange, OpenGroup}
use Rattle.sedre.specs.declared.types.ExprReason.TheVariants.{StrayClose, BadInterval, NothingToRepeat, LastBackslash}
use Rattle.sedre.specs.declared.types.ExprReason.TheVariants.{UnknownEscape, BackReference, TooManyNodes}
use Rattle.sedre.specs.Tokens.{token_at, front_interval}
use Rattle.sedre.specs.Brackets.{list_at}
use Rattle.sedre.specs.Grammar.{ExprFaulty}
use Rattle.examples.proofs.ComputedReading.{outcome, rest_of, faulty_with}

-- A bracket expression, or a form in it, isn't closed: the place of its [.

open_list : ExprFaulty Basic None (codes "[a") 65536 0 OpenBracket
unfolding outcome rest_of token_at list_at
open_list = faulty_with refl

open_list_later : ExprFaulty Basic None (codes "xx[a") 65536 2 OpenBracket
unfolding outcome rest_of token_at list_at
open_list_later = faulty_with refl

open_list_in_a_group : ExprFaulty Extended None (codes "(a[") 65536 2 OpenBracket
unfolding outcome rest_of token_at list_at
open_list_in_a_group = faulty_with refl

open_empty_list : ExprFaulty Basic None (codes "[]") 65536 0 OpenBracket
unfolding outcome rest_of token_at list_at
open_empty_list = faulty_with refl

open_non_matching_list : ExprFaulty Basic None (codes "[^]") 65536 0 OpenBracket
unfolding outcome rest_of token_at list_at
open_non_matching_list = faulty_with refl

open_range : ExprFaulty Basic None (codes "[a-") 65536 0 OpenBracket
unfolding outcome rest_of token_at list_at
open_range = faulty_with refl

open_after_a_range : ExprFaulty Basic None (codes "[a-c-") 65536 0 OpenBracket
unfolding outcome rest_of token_at list_at
open_after_a_range = faulty_with refl

open_form : ExprFaulty Basic None (codes "[a[:x]") 65536 0 OpenBracket
unfolding outcome rest_of token_at list_at
open_form = faulty_with refl

form_of_no_byte : ExprFaulty Basic None (codes "[[::]]") 65536 0 OpenBracket
unfolding outcome rest_of token_at list_at
form_of_no_byte = faulty_with refl

plain_opening_as_delimiter : ExprFaulty Basic (Some 91) (codes "[a") 65536 0 OpenBracket
unfolding outcome rest_of token_at list_at
plain_opening_as_delimiter = faulty_with refl

escaped_closing_as_delimiter : ExprFaulty Basic (Some 93) (codes "[\\]") 65536 0 OpenBracket
unfolding outcome rest_of token_at list_at
escaped_closing_as_delimiter = faulty_with refl

-- A class has no such name: the place of the form.

unknown_class : ExprFaulty Basic None (codes "[[:foo:]]") 65536 1 UnknownClass
unfolding outcome rest_of token_at list_at
unknown_class = faulty_with refl

class_in_capitals : ExprFaulty Basic None (codes "[[:ALPHA:]]") 65536 1 UnknownClass
unfolding outcome rest_of token_at list_at
class_in_capitals = faulty_with refl

class_named_by_a_bracket : ExprFaulty Basic None (codes "[[:]:]]") 65536 1 UnknownClass
unfolding outcome rest_of token_at list_at
class_named_by_a_bracket = faulty_with refl

unknown_class_in_an_open_list : ExprFaulty Basic None (codes "[[:foo:]") 65536 1 UnknownClass
unfolding outcome rest_of token_at list_at
unknown_class_in_an_open_list = faulty_with refl

unknown_class_as_the_end_of_a_range : ExprFaulty Basic None (codes "[[:alpha:]-[:foo:]]") 65536 11 UnknownClass
unfolding outcome rest_of token_at list_at
unknown_class_as_the_end_of_a_range = faulty_with refl

unknown_class_as_the_begin_of_a_range : ExprFaulty Basic None (codes "[[:foo:]-a]") 65536 1 UnknownClass
unfolding outcome rest_of token_at list_at
unknown_class_as_the_begin_of_a_range = faulty_with refl

-- More than one byte in [. .] or [= =]: the place of the form.

two_collating_bytes : ExprFaulty Basic None (codes "[[.ab.]]") 65536 1 LongCollating
unfolding outcome rest_of token_at list_at
two_collating_bytes = faulty_with refl

two_equivalent_bytes : ExprFaulty Basic None (codes "[[=ab=]]") 65536 1 LongCollating
unfolding outcome rest_of token_at list_at
two_equivalent_bytes = faulty_with refl

form_holds_its_sign : ExprFaulty Basic None (codes "[[==]=]]") 65536 1 LongCollating
unfolding outcome rest_of token_at list_at
form_holds_its_sign = faulty_with refl

escaped_delimiter_in_a_form : ExprFaulty Basic (Some 47) (codes "[[.\\/.]]") 65536 1 LongCollating
unfolding outcome rest_of token_at list_at
escaped_delimiter_in_a_form = faulty_with refl

two_collating_bytes_as_the_end_of_a_range : ExprFaulty Basic None (codes "[b-[.ab.]]") 65536 3 LongCollating
unfolding outcome rest_of token_at list_at
two_collating_bytes_as_the_end_of_a_range = faulty_with refl

-- A range whose end is below its begin, whose ends are no bytes, or that goes on: the place of its first item.

range_downwards : ExprFaulty Basic None (codes "[b-a]") 65536 1 BadRange
unfolding outcome rest_of token_at list_at
range_downwards = faulty_with refl

range_downwards_in_an_open_list : ExprFaulty Basic None (codes "[b-a") 65536 1 BadRange
unfolding outcome rest_of token_at list_at
range_downwards_in_an_open_list = faulty_with refl

range_goes_on : ExprFaulty Basic None (codes "[a-c-e]") 65536 1 BadRange
unfolding outcome rest_of token_at list_at
range_goes_on = faulty_with refl

range_goes_on_later : ExprFaulty Basic None (codes "[xa-c-e]") 65536 2 BadRange
unfolding outcome rest_of token_at list_at
range_goes_on_later = faulty_with refl

range_goes_on_with_a_class : ExprFaulty Basic None (codes "[a-c-[:foo:]]") 65536 1 BadRange
unfolding outcome rest_of token_at list_at
range_goes_on_with_a_class = faulty_with refl

range_goes_on_with_the_delimiter : ExprFaulty Basic (Some 93) (codes "[a-c-\\]]") 65536 1 BadRange
unfolding outcome rest_of token_at list_at
range_goes_on_with_the_delimiter = faulty_with refl

range_from_a_class : ExprFaulty Basic None (codes "[[:digit:]-z]") 65536 1 BadRange
unfolding outcome rest_of token_at list_at
range_from_a_class = faulty_with refl

range_to_a_class : ExprFaulty Basic None (codes "[a-[:digit:]]") 65536 1 BadRange
unfolding outcome rest_of token_at list_at
range_to_a_class = faulty_with refl

range_from_an_equivalence_class : ExprFaulty Basic None (codes "[[=a=]-z]") 65536 1 BadRange
unfolding outcome rest_of token_at list_at
range_from_an_equivalence_class = faulty_with refl

range_to_an_equivalence_class : ExprFaulty Basic None (codes "[a-[=z=]]") 65536 1 BadRange
unfolding outcome rest_of token_at list_at
range_to_an_equivalence_class = faulty_with refl

range_downwards_in_a_non_matching_list : ExprFaulty Basic None (codes "[^b-a]") 65536 2 BadRange
unfolding outcome rest_of token_at list_at
range_downwards_in_a_non_matching_list = faulty_with refl

-- A group isn't closed: the end of the text.

open_group : ExprFaulty Extended None (codes "(") 65536 1 OpenGroup
unfolding outcome rest_of token_at
open_group = faulty_with refl

open_group_basic : ExprFaulty Basic None (codes "\\(a") 65536 3 OpenGroup
unfolding outcome rest_of token_at
open_group_basic = faulty_with refl

open_group_within_another : ExprFaulty Extended None (codes "((a)") 65536 4 OpenGroup
unfolding outcome rest_of token_at
open_group_within_another = faulty_with refl

-- A group is closed and none is open: the place of the closing.

stray_closing : ExprFaulty Extended None (codes ")") 65536 0 StrayClose
unfolding outcome rest_of token_at
stray_closing = faulty_with refl

second_closing : ExprFaulty Extended None (codes "())") 65536 2 StrayClose
unfolding outcome rest_of token_at
second_closing = faulty_with refl

stray_closing_basic : ExprFaulty Basic None (codes "a\\)") 65536 1 StrayClose
unfolding outcome rest_of token_at
stray_closing_basic = faulty_with refl

stray_closing_before_another_fault : ExprFaulty Extended None (codes ")\\w") 65536 0 StrayClose
unfolding outcome rest_of token_at
stray_closing_before_another_fault = faulty_with refl

-- An interval isn't one, or its numbers aren't 0 to 255 in order: the place of its opening.

number_above_255 : ExprFaulty Extended None (codes "a{256}") 65536 1 BadInterval
unfolding outcome rest_of token_at front_interval
number_above_255 = faulty_with refl

number_above_255_with_zeros : ExprFaulty Extended None (codes "a{0000256}") 65536 1 BadInterval
unfolding outcome rest_of token_at front_interval
number_above_255_with_zeros = faulty_with refl

numbers_in_disorder : ExprFaulty Basic None (codes "a\\{3,2\\}") 65536 1 BadInterval
unfolding outcome rest_of token_at front_interval
numbers_in_disorder = faulty_with refl

interval_without_numbers : ExprFaulty Extended None (codes "a{") 65536 1 BadInterval
unfolding outcome rest_of token_at front_interval
interval_without_numbers = faulty_with refl

interval_without_a_first_number : ExprFaulty Extended None (codes "a{,2}") 65536 1 BadInterval
unfolding outcome rest_of token_at front_interval
interval_without_a_first_number = faulty_with refl

interval_not_closed : ExprFaulty Extended None (codes "a{2") 65536 1 BadInterval
unfolding outcome rest_of token_at front_interval
interval_not_closed = faulty_with refl

interval_not_closed_after_the_comma : ExprFaulty Extended None (codes "a{2,") 65536 1 BadInterval
unfolding outcome rest_of token_at front_interval
interval_not_closed_after_the_comma = faulty_with refl

interval_with_three_numbers : ExprFaulty Extended None (codes "a{1,2,3}") 65536 1 BadInterval
unfolding outcome rest_of token_at front_interval
interval_with_three_numbers = faulty_with refl

interval_with_a_blank : ExprFaulty Extended None (codes "a{ 2}") 65536 1 BadInterval
unfolding outcome rest_of token_at front_interval
interval_with_a_blank = faulty_with refl

interval_closed_as_in_the_other_kind : ExprFaulty Basic None (codes "a\\{2}") 65536 1 BadInterval
unfolding outcome rest_of token_at front_interval
interval_closed_as_in_the_other_kind = faulty_with refl

escaped_closing_of_an_interval : ExprFaulty Extended None (codes "a{2\\}") 65536 1 BadInterval
unfolding outcome rest_of token_at front_interval
escaped_closing_of_an_interval = faulty_with refl

escaped_delimiter_closes_no_interval : ExprFaulty Basic (Some 125) (codes "a\\{2\\}") 65536 1 BadInterval
unfolding outcome rest_of token_at front_interval
escaped_delimiter_closes_no_interval = faulty_with refl

escaped_delimiter_in_an_interval : ExprFaulty Extended (Some 50) (codes "a{\\2}") 65536 1 BadInterval
unfolding outcome rest_of token_at front_interval
escaped_delimiter_in_an_interval = faulty_with refl

stray_interval_closing : ExprFaulty Basic None (codes "\\}") 65536 0 BadInterval
unfolding outcome rest_of token_at
stray_interval_closing = faulty_with refl

stray_interval_closing_after_a_byte : ExprFaulty Basic None (codes "a\\}") 65536 1 BadInterval
unfolding outcome rest_of token_at
stray_interval_closing_after_a_byte = faulty_with refl

-- Nothing comes before a repetition that it could repeat: the place of the symbol.

star_first : ExprFaulty Extended None (codes "*a") 65536 0 NothingToRepeat
unfolding outcome rest_of token_at
star_first = faulty_with refl

star_first_in_a_group : ExprFaulty Extended None (codes "(*a)") 65536 1 NothingToRepeat
unfolding outcome rest_of token_at
star_first_in_a_group = faulty_with refl

star_first_in_an_alternative : ExprFaulty Extended None (codes "a|*") 65536 2 NothingToRepeat
unfolding outcome rest_of token_at
star_first_in_an_alternative = faulty_with refl

star_after_a_caret : ExprFaulty Extended None (codes "^*") 65536 1 NothingToRepeat
unfolding outcome rest_of token_at
star_after_a_caret = faulty_with refl

star_after_a_dollar : ExprFaulty Extended None (codes "a$*") 65536 2 NothingToRepeat
unfolding outcome rest_of token_at
star_after_a_dollar = faulty_with refl

plus_first : ExprFaulty Extended None (codes "+a") 65536 0 NothingToRepeat
unfolding outcome rest_of token_at
plus_first = faulty_with refl

plus_first_in_a_group : ExprFaulty Extended None (codes "(+a)") 65536 1 NothingToRepeat
unfolding outcome rest_of token_at
plus_first_in_a_group = faulty_with refl

plus_first_in_an_alternative : ExprFaulty Extended None (codes "a|+") 65536 2 NothingToRepeat
unfolding outcome rest_of token_at
plus_first_in_an_alternative = faulty_with refl

question_mark_after_a_caret : ExprFaulty Extended None (codes "^?") 65536 1 NothingToRepeat
unfolding outcome rest_of token_at
question_mark_after_a_caret = faulty_with refl

interval_after_a_caret : ExprFaulty Extended None (codes "^{1}") 65536 1 NothingToRepeat
unfolding outcome rest_of token_at front_interval
interval_after_a_caret = faulty_with refl

question_mark_after_a_dollar : ExprFaulty Extended None (codes "$?") 65536 1 NothingToRepeat
unfolding outcome rest_of token_at
question_mark_after_a_dollar = faulty_with refl

interval_after_a_dollar : ExprFaulty Extended None (codes "${1}") 65536 1 NothingToRepeat
unfolding outcome rest_of token_at front_interval
interval_after_a_dollar = faulty_with refl

question_mark_first : ExprFaulty Extended None (codes "?a") 65536 0 NothingToRepeat
unfolding outcome rest_of token_at
question_mark_first = faulty_with refl

interval_first : ExprFaulty Extended None (codes "{1}") 65536 0 NothingToRepeat
unfolding outcome rest_of token_at front_interval
interval_first = faulty_with refl

brace_first : ExprFaulty Extended None (codes "{") 65536 0 NothingToRepeat
unfolding outcome rest_of token_at front_interval
brace_first = faulty_with refl

bad_interval_first : ExprFaulty Extended None (codes "{300}") 65536 0 NothingToRepeat
unfolding outcome rest_of token_at front_interval
bad_interval_first = faulty_with refl

plus_after_a_caret : ExprFaulty Extended None (codes "^+") 65536 1 NothingToRepeat
unfolding outcome rest_of token_at
plus_after_a_caret = faulty_with refl

plus_after_a_dollar : ExprFaulty Extended None (codes "$+") 65536 1 NothingToRepeat
unfolding outcome rest_of token_at
plus_after_a_dollar = faulty_with refl

plus_first_basic : ExprFaulty Basic None (codes "\\+a") 65536 0 NothingToRepeat
unfolding outcome rest_of token_at
plus_first_basic = faulty_with refl

question_mark_first_basic : ExprFaulty Basic None (codes "\\?a") 65536 0 NothingToRepeat
unfolding outcome rest_of token_at
question_mark_first_basic = faulty_with refl

interval_first_basic : ExprFaulty Basic None (codes "\\{1\\}a") 65536 0 NothingToRepeat
unfolding outcome rest_of token_at front_interval
interval_first_basic = faulty_with refl

plus_first_in_a_group_basic : ExprFaulty Basic None (codes "\\(\\+a\\)") 65536 2 NothingToRepeat
unfolding outcome rest_of token_at
plus_first_in_a_group_basic = faulty_with refl

plus_after_an_alternation_basic : ExprFaulty Basic None (codes "a\\|\\+b") 65536 3 NothingToRepeat
unfolding outcome rest_of token_at
plus_after_an_alternation_basic = faulty_with refl

bad_interval_first_basic : ExprFaulty Basic None (codes "\\{300\\}") 65536 0 NothingToRepeat
unfolding outcome rest_of token_at front_interval
bad_interval_first_basic = faulty_with refl

plus_after_a_caret_basic : ExprFaulty Basic None (codes "^\\+") 65536 1 NothingToRepeat
unfolding outcome rest_of token_at
plus_after_a_caret_basic = faulty_with refl

question_mark_after_a_caret_basic : ExprFaulty Basic None (codes "^\\?") 65536 1 NothingToRepeat
unfolding outcome rest_of token_at
question_mark_after_a_caret_basic = faulty_with refl

interval_after_a_caret_basic : ExprFaulty Basic None (codes "^\\{1\\}") 65536 1 NothingToRepeat
unfolding outcome rest_of token_at front_interval
interval_after_a_caret_basic = faulty_with refl

-- A ? directly after a repetition of an extended expression is left out by name.

question_mark_after_a_star : ExprFaulty Extended None (codes "a*?") 65536 2 NothingToRepeat
unfolding outcome rest_of token_at
question_mark_after_a_star = faulty_with refl

question_mark_after_a_plus : ExprFaulty Extended None (codes "a+?") 65536 2 NothingToRepeat
unfolding outcome rest_of token_at
question_mark_after_a_plus = faulty_with refl

question_mark_after_another : ExprFaulty Extended None (codes "a??") 65536 2 NothingToRepeat
unfolding outcome rest_of token_at
question_mark_after_another = faulty_with refl

question_mark_after_an_interval : ExprFaulty Extended None (codes "a{2}?") 65536 4 NothingToRepeat
unfolding outcome rest_of token_at front_interval
question_mark_after_an_interval = faulty_with refl

-- A backslash is the last byte: its place.

last_backslash : ExprFaulty Basic None (codes "a\\") 65536 1 LastBackslash
unfolding outcome rest_of token_at
last_backslash = faulty_with refl

last_backslash_extended : ExprFaulty Extended None (codes "\\") 65536 0 LastBackslash
unfolding outcome rest_of token_at
last_backslash_extended = faulty_with refl

-- A backslash before a byte with which it has no meaning here: its place.

escaped_letter : ExprFaulty Basic None (codes "\\w") 65536 0 UnknownEscape
unfolding outcome rest_of token_at
escaped_letter = faulty_with refl

escaped_letter_extended : ExprFaulty Extended None (codes "(\\w") 65536 1 UnknownEscape
unfolding outcome rest_of token_at
escaped_letter_extended = faulty_with refl

escaped_less : ExprFaulty Basic None (codes "\\<") 65536 0 UnknownEscape
unfolding outcome rest_of token_at
escaped_less = faulty_with refl

escaped_greater : ExprFaulty Extended None (codes "a\\>") 65536 1 UnknownEscape
unfolding outcome rest_of token_at
escaped_greater = faulty_with refl

escaped_apostrophe : ExprFaulty Extended None (codes "\\'") 65536 0 UnknownEscape
unfolding outcome rest_of token_at
escaped_apostrophe = faulty_with refl

escaped_grave_accent : ExprFaulty Extended None (codes "\\`") 65536 0 UnknownEscape
unfolding outcome rest_of token_at
escaped_grave_accent = faulty_with refl

escaped_zero : ExprFaulty Basic None (codes "\\0") 65536 0 UnknownEscape
unfolding outcome rest_of token_at
escaped_zero = faulty_with refl

-- Back-references are refused in both kinds.

back_reference : ExprFaulty Basic None (codes "\\(a\\)\\1") 65536 5 BackReference
unfolding outcome rest_of token_at
back_reference = faulty_with refl

back_reference_extended : ExprFaulty Extended None (codes "(a)\\9") 65536 3 BackReference
unfolding outcome rest_of token_at
back_reference_extended = faulty_with refl

back_reference_without_a_group : ExprFaulty Basic None (codes "\\1") 65536 0 BackReference
unfolding outcome rest_of token_at
back_reference_without_a_group = faulty_with refl

-- The expression written out has too many nodes: the end of the text.

one_node_too_many : ExprFaulty Extended None (codes "ab") 2 2 TooManyNodes
unfolding outcome rest_of token_at
one_node_too_many = faulty_with refl

one_copy_too_many : ExprFaulty Extended None (codes "x{0,255}") 763 8 TooManyNodes
unfolding outcome rest_of token_at front_interval
one_copy_too_many = faulty_with refl

first_fault_before_too_many_nodes : ExprFaulty Extended None (codes "abc)") 1 3 StrayClose
unfolding outcome rest_of token_at
first_fault_before_too_many_nodes = faulty_with refl
