-- Examples of scripts that are refused for what follows `s` and `y` (XCU sed, "Extended Description"), with their places,
-- computed by the definitions. Which fault a script has, and where, is this project's own.
use Rattle.std.proofs.Common.{refl}
use Rattle.std.specs.Prelude.{codes}
use Rattle.sedre.specs.declared.types.Kind.TheVariants.{Basic, Extended}
use Rattle.sedre.specs.declared.types.ExprReason.TheVariants as expression
use Rattle.sedscript.specs.declared.types.Reason.TheVariants as fault
use Rattle.sedscript.specs.FirstFault.{Faulty}
use Rattle.examples.proofs.ComputedScript.{verdict, cutting, walked, has_fault}
use Rattle.examples.proofs.ScriptWords.{fault_at, expression_fault_at}
use Rattle.sedre.specs.Tokens.{token_at, front_interval}
use Rattle.sedre.specs.Brackets.{list_at, list_end, delimiter_at}
use Rattle.examples.proofs.ComputedReading.{outcome, rest_of}
use Rattle.sedscript.specs.Bytes.{past}
use Rattle.sedscript.specs.Items.{match_at, address_at, second_at, addresses_at, substitute_at, function_at, item_at}
use Rattle.sedscript.specs.Letters.{substituted, transliterate_at}
use Rattle.sedscript.specs.Arguments.{text_from, name_from}

-- A delimiter isn't there, or is none.

no_delimiter : Faulty (codes "s") Basic 65536 (fault_at 1 fault.BadDelimiter)
unfolding verdict cutting walked item_at past function_at addresses_at address_at match_at substitute_at substituted delimiter_at outcome rest_of token_at
no_delimiter = has_fault refl

backslash_as_delimiter : Faulty (codes "s\\a\\b\\") Basic 65536 (fault_at 1 fault.BadDelimiter)
unfolding verdict cutting walked item_at past function_at addresses_at address_at match_at substitute_at substituted delimiter_at outcome rest_of token_at text_from
backslash_as_delimiter = has_fault refl

newline_as_delimiter : Faulty (codes "s\na\nb\n") Basic 65536 (fault_at 1 fault.BadDelimiter)
unfolding verdict cutting walked item_at past function_at addresses_at address_at match_at substitute_at substituted delimiter_at outcome rest_of token_at text_from
newline_as_delimiter = has_fault refl

no_delimiter_of_y : Faulty (codes "y") Basic 65536 (fault_at 1 fault.BadDelimiter)
unfolding verdict cutting walked item_at past function_at addresses_at address_at transliterate_at
no_delimiter_of_y = has_fault refl

backslash_as_delimiter_of_y : Faulty (codes "y\\a\\b\\") Basic 65536 (fault_at 1 fault.BadDelimiter)
unfolding verdict cutting walked item_at past function_at addresses_at address_at match_at substitute_at substituted delimiter_at outcome rest_of token_at transliterate_at text_from
backslash_as_delimiter_of_y = has_fault refl

open_expression : Faulty (codes "s/a") Basic 65536 (fault_at 1 fault.OpenDelimiter)
unfolding verdict cutting walked item_at past function_at addresses_at address_at match_at substitute_at substituted delimiter_at outcome rest_of token_at text_from
open_expression = has_fault refl

expression_over_two_lines : Faulty (codes "s/a\nb/c/") Basic 65536 (fault_at 1 fault.OpenDelimiter)
unfolding verdict cutting walked item_at past function_at addresses_at address_at match_at substitute_at substituted delimiter_at outcome rest_of token_at text_from
expression_over_two_lines = has_fault refl

open_list_in_an_expression : Faulty (codes "s/[/x/") Basic 65536 (fault_at 1 fault.OpenDelimiter)
unfolding verdict cutting walked item_at past function_at addresses_at address_at match_at substitute_at substituted delimiter_at outcome rest_of token_at list_at list_end
open_list_in_an_expression = has_fault refl

open_replacement : Faulty (codes "s/a/b") Basic 65536 (fault_at 3 fault.OpenDelimiter)
unfolding verdict cutting walked item_at past function_at addresses_at address_at match_at substitute_at substituted delimiter_at outcome rest_of token_at text_from
open_replacement = has_fault refl

replacement_over_two_lines : Faulty (codes "s/a/b\nc/") Basic 65536 (fault_at 3 fault.OpenDelimiter)
unfolding verdict cutting walked item_at past function_at addresses_at address_at match_at substitute_at substituted delimiter_at outcome rest_of token_at text_from
replacement_over_two_lines = has_fault refl

open_source : Faulty (codes "y/a") Basic 65536 (fault_at 1 fault.OpenDelimiter)
unfolding verdict cutting walked item_at past function_at addresses_at address_at match_at substitute_at substituted delimiter_at outcome rest_of token_at transliterate_at text_from
open_source = has_fault refl

source_over_two_lines : Faulty (codes "y/a\nb/cd/") Basic 65536 (fault_at 1 fault.OpenDelimiter)
unfolding verdict cutting walked item_at past function_at addresses_at address_at match_at substitute_at substituted delimiter_at outcome rest_of token_at transliterate_at text_from
source_over_two_lines = has_fault refl

source_over_two_lines_by_a_backslash : Faulty (codes "y/a\\\n/bc/") Basic 65536 (fault_at 1 fault.OpenDelimiter)
unfolding verdict cutting walked item_at past function_at addresses_at address_at match_at substitute_at substituted delimiter_at outcome rest_of token_at transliterate_at text_from
source_over_two_lines_by_a_backslash = has_fault refl

open_target : Faulty (codes "y/a/b") Basic 65536 (fault_at 3 fault.OpenDelimiter)
unfolding verdict cutting walked item_at past function_at addresses_at address_at match_at substitute_at substituted delimiter_at outcome rest_of token_at transliterate_at text_from
open_target = has_fault refl

newline_as_delimiter_of_y : Faulty (codes "y\na\nb\n") Basic 65536 (fault_at 1 fault.BadDelimiter)
unfolding verdict cutting walked item_at past function_at addresses_at address_at match_at substitute_at substituted delimiter_at outcome rest_of token_at transliterate_at text_from
newline_as_delimiter_of_y = has_fault refl

target_over_two_lines : Faulty (codes "y/a/b\n/") Basic 65536 (fault_at 3 fault.OpenDelimiter)
unfolding verdict cutting walked item_at past function_at addresses_at address_at match_at substitute_at substituted delimiter_at outcome rest_of token_at transliterate_at text_from
target_over_two_lines = has_fault refl

open_target_before_escape : Faulty (codes "y/\\q/b") Basic 65536 (fault_at 4 fault.OpenDelimiter)
unfolding verdict cutting walked item_at past function_at addresses_at address_at match_at substitute_at substituted delimiter_at outcome rest_of token_at transliterate_at text_from
open_target_before_escape = has_fault refl

open_replacement_before_a_fault_of_the_expression : Faulty (codes "s/*/b") Extended 65536 (fault_at 3 fault.OpenDelimiter)
unfolding verdict cutting walked item_at past function_at addresses_at address_at match_at substitute_at substituted delimiter_at outcome rest_of token_at
open_replacement_before_a_fault_of_the_expression = has_fault refl

-- The regular expression has a fault.

back_reference : Faulty (codes "s/\\(a\\)\\1/x/") Basic 65536 (expression_fault_at 7 5 expression.BackReference)
unfolding verdict cutting walked item_at past function_at addresses_at address_at match_at substitute_at substituted delimiter_at outcome rest_of token_at text_from
back_reference = has_fault refl

interval_with_numbers_in_disorder : Faulty (codes "s/a\\{3,2\\}/x/") Basic 65536 (expression_fault_at 3 1 expression.BadInterval)
unfolding verdict cutting walked item_at past function_at addresses_at address_at second_at match_at substitute_at substituted delimiter_at outcome rest_of token_at front_interval text_from
interval_with_numbers_in_disorder = has_fault refl

too_many_nodes : Faulty (codes "s/ab/x/") Basic 1 (expression_fault_at 4 2 expression.TooManyNodes)
unfolding verdict cutting walked item_at past function_at addresses_at address_at match_at substitute_at substituted delimiter_at outcome rest_of token_at text_from
too_many_nodes = has_fault refl

expression_before_replacement_and_flags : Faulty (codes "s/a\\(/\\q/z") Basic 65536 (expression_fault_at 5 3 expression.OpenGroup)
unfolding verdict cutting walked item_at past function_at addresses_at address_at match_at substitute_at substituted delimiter_at outcome rest_of token_at text_from
expression_before_replacement_and_flags = has_fault refl

-- An escape of the replacement stands for nothing, or the expression has no such group: the backslash.

unknown_escape : Faulty (codes "s/a/\\q/") Basic 65536 (fault_at 4 fault.BadEscape)
unfolding verdict cutting walked item_at past function_at addresses_at address_at match_at substitute_at substituted delimiter_at outcome rest_of token_at text_from
unknown_escape = has_fault refl

left_out_upper_case : Faulty (codes "s/a/\\U&/") Basic 65536 (fault_at 4 fault.BadEscape)
unfolding verdict cutting walked item_at past function_at addresses_at address_at match_at substitute_at substituted delimiter_at outcome rest_of token_at text_from
left_out_upper_case = has_fault refl

left_out_lower_case : Faulty (codes "s/a/x\\l/") Basic 65536 (fault_at 5 fault.BadEscape)
unfolding verdict cutting walked item_at past function_at addresses_at address_at match_at substitute_at substituted delimiter_at outcome rest_of token_at text_from
left_out_lower_case = has_fault refl

no_such_group : Faulty (codes "s/a/\\1/") Basic 65536 (fault_at 4 fault.GroupAbsent)
unfolding verdict cutting walked item_at past function_at addresses_at address_at match_at substitute_at substituted delimiter_at outcome rest_of token_at text_from
no_such_group = has_fault refl

no_second_group : Faulty (codes "s/\\(a\\)/\\1\\2/") Basic 65536 (fault_at 10 fault.GroupAbsent)
unfolding verdict cutting walked item_at past function_at addresses_at address_at match_at substitute_at substituted delimiter_at outcome rest_of token_at text_from
no_second_group = has_fault refl

escape_before_group : Faulty (codes "s/a/\\q\\1/") Basic 65536 (fault_at 4 fault.BadEscape)
unfolding verdict cutting walked item_at past function_at addresses_at address_at match_at substitute_at substituted delimiter_at outcome rest_of token_at text_from
escape_before_group = has_fault refl

group_before_escape : Faulty (codes "s/a/\\1\\q/") Basic 65536 (fault_at 4 fault.GroupAbsent)
unfolding verdict cutting walked item_at past function_at addresses_at address_at match_at substitute_at substituted delimiter_at outcome rest_of token_at text_from
group_before_escape = has_fault refl

escape_before_flag : Faulty (codes "s/a/\\q/k") Basic 65536 (fault_at 4 fault.BadEscape)
unfolding verdict cutting walked item_at past function_at addresses_at address_at match_at substitute_at substituted delimiter_at outcome rest_of token_at text_from
escape_before_flag = has_fault refl

-- A byte is no flag, a flag occurs twice, or its number is 0 or above 2 ^ 64 - 1.

unknown_flag : Faulty (codes "s/a/b/k") Basic 65536 (fault_at 6 fault.UnknownFlag)
unfolding verdict cutting walked item_at past function_at addresses_at address_at match_at substitute_at substituted delimiter_at outcome rest_of token_at text_from
unknown_flag = has_fault refl

left_out_lower_case_flag : Faulty (codes "s/a/b/i") Basic 65536 (fault_at 6 fault.UnknownFlag)
unfolding verdict cutting walked item_at past function_at addresses_at address_at match_at substitute_at substituted delimiter_at outcome rest_of token_at text_from
left_out_lower_case_flag = has_fault refl

left_out_capital_m : Faulty (codes "s/a/b/M") Basic 65536 (fault_at 6 fault.UnknownFlag)
unfolding verdict cutting walked item_at past function_at addresses_at address_at match_at substitute_at substituted delimiter_at outcome rest_of token_at text_from
left_out_capital_m = has_fault refl

global_twice : Faulty (codes "s/a/b/gg") Basic 65536 (fault_at 7 fault.RepeatedFlag)
unfolding verdict cutting walked item_at past function_at addresses_at address_at match_at substitute_at substituted delimiter_at outcome rest_of token_at text_from
global_twice = has_fault refl

print_twice : Faulty (codes "s/a/b/pgp") Basic 65536 (fault_at 8 fault.RepeatedFlag)
unfolding verdict cutting walked item_at past function_at addresses_at address_at match_at substitute_at substituted delimiter_at outcome rest_of token_at text_from
print_twice = has_fault refl

folded_twice : Faulty (codes "s/a/b/II") Basic 65536 (fault_at 7 fault.RepeatedFlag)
unfolding verdict cutting walked item_at past function_at addresses_at address_at match_at substitute_at substituted delimiter_at outcome rest_of token_at text_from
folded_twice = has_fault refl

second_number : Faulty (codes "s/a/b/1g2") Basic 65536 (fault_at 8 fault.RepeatedFlag)
unfolding verdict cutting walked item_at past function_at addresses_at address_at match_at substitute_at substituted delimiter_at outcome rest_of token_at text_from
second_number = has_fault refl

second_number_of_0 : Faulty (codes "s/a/b/1g0") Basic 65536 (fault_at 8 fault.RepeatedFlag)
unfolding verdict cutting walked item_at past function_at addresses_at address_at match_at substitute_at substituted delimiter_at outcome rest_of token_at text_from
second_number_of_0 = has_fault refl

number_0 : Faulty (codes "s/a/b/0") Basic 65536 (fault_at 6 fault.BadNumber)
unfolding verdict cutting walked item_at past function_at addresses_at address_at match_at substitute_at substituted delimiter_at outcome rest_of token_at text_from
number_0 = has_fault refl

number_00 : Faulty (codes "s/a/b/00") Basic 65536 (fault_at 6 fault.BadNumber)
unfolding verdict cutting walked item_at past function_at addresses_at address_at match_at substitute_at substituted delimiter_at outcome rest_of token_at text_from
number_00 = has_fault refl

number_2_to_the_64 : Faulty (codes "s/a/b/18446744073709551616") Basic 65536 (fault_at 6 fault.BadNumber)
unfolding verdict cutting walked item_at past function_at addresses_at address_at match_at substitute_at substituted delimiter_at outcome rest_of token_at text_from
number_2_to_the_64 = has_fault refl

no_name_after_a_flag : Faulty (codes "s/a/b/w") Basic 65536 (fault_at 6 fault.MissingName)
unfolding verdict cutting walked item_at past function_at addresses_at address_at match_at substitute_at substituted delimiter_at outcome rest_of token_at text_from name_from
no_name_after_a_flag = has_fault refl

command_after_a_flag : Faulty (codes "s/a/b/g p") Basic 65536 (fault_at 8 fault.TrailingBytes)
unfolding verdict cutting walked item_at past function_at addresses_at address_at match_at substitute_at substituted delimiter_at outcome rest_of token_at text_from
command_after_a_flag = has_fault refl

flag_on_an_empty_expression : Faulty (codes "s//x/I") Basic 65536 (fault_at 5 fault.FlagOnEmpty)
unfolding verdict cutting walked item_at past function_at addresses_at address_at match_at substitute_at substituted delimiter_at outcome rest_of token_at
flag_on_an_empty_expression = has_fault refl

first_flag_on_an_empty_expression : Faulty (codes "s//x/II") Basic 65536 (fault_at 5 fault.FlagOnEmpty)
unfolding verdict cutting walked item_at past function_at addresses_at address_at match_at substitute_at substituted delimiter_at outcome rest_of token_at
first_flag_on_an_empty_expression = has_fault refl

-- The strings of `y`: an escape stands for nothing, a byte occurs twice in the source, the lengths differ, in this order.

unknown_escape_of_the_source : Faulty (codes "y/a\\q/bc/") Basic 65536 (fault_at 3 fault.BadEscape)
unfolding verdict cutting walked item_at past function_at addresses_at address_at match_at substitute_at substituted delimiter_at outcome rest_of token_at transliterate_at text_from
unknown_escape_of_the_source = has_fault refl

unknown_escape_of_the_target : Faulty (codes "y/a/\\q/") Basic 65536 (fault_at 4 fault.BadEscape)
unfolding verdict cutting walked item_at past function_at addresses_at address_at match_at substitute_at substituted delimiter_at outcome rest_of token_at transliterate_at text_from
unknown_escape_of_the_target = has_fault refl

byte_twice : Faulty (codes "y/aa/bc/") Basic 65536 (fault_at 3 fault.RepeatedByte)
unfolding verdict cutting walked item_at past function_at addresses_at address_at match_at substitute_at substituted delimiter_at outcome rest_of token_at transliterate_at text_from
byte_twice = has_fault refl

escaped_byte_twice : Faulty (codes "y/\\na\\n/bcd/") Basic 65536 (fault_at 5 fault.RepeatedByte)
unfolding verdict cutting walked item_at past function_at addresses_at address_at match_at substitute_at substituted delimiter_at outcome rest_of token_at transliterate_at text_from
escaped_byte_twice = has_fault refl

byte_twice_before_lengths : Faulty (codes "y/aa/b/") Basic 65536 (fault_at 3 fault.RepeatedByte)
unfolding verdict cutting walked item_at past function_at addresses_at address_at match_at substitute_at substituted delimiter_at outcome rest_of token_at transliterate_at text_from
byte_twice_before_lengths = has_fault refl

lengths_differ : Faulty (codes "y/abc/x/") Basic 65536 (fault_at 0 fault.LengthsDiffer)
unfolding verdict cutting walked item_at past function_at addresses_at address_at match_at substitute_at substituted delimiter_at outcome rest_of token_at transliterate_at text_from
lengths_differ = has_fault refl

target_longer : Faulty (codes "1y/a/xyz/") Basic 65536 (fault_at 1 fault.LengthsDiffer)
unfolding verdict cutting walked item_at past function_at addresses_at address_at match_at substitute_at substituted delimiter_at outcome rest_of token_at transliterate_at text_from
target_longer = has_fault refl

escape_before_byte_twice : Faulty (codes "y/aa/b\\q/") Basic 65536 (fault_at 6 fault.BadEscape)
unfolding verdict cutting walked item_at past function_at addresses_at address_at match_at substitute_at substituted delimiter_at outcome rest_of token_at transliterate_at text_from
escape_before_byte_twice = has_fault refl

command_after_y : Faulty (codes "y/a/b/ p") Basic 65536 (fault_at 7 fault.TrailingBytes)
unfolding verdict cutting walked item_at past function_at addresses_at address_at match_at substitute_at substituted delimiter_at outcome rest_of token_at transliterate_at text_from
command_after_y = has_fault refl
