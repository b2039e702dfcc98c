-- Examples of scripts that are refused for their functions and addresses (XCU sed, "Extended Description"), with their places, computed by the definitions.
-- Which fault a script has, and where, is this project's own.
use Rattle.std.proofs.Common.{refl}
use Rattle.std.specs.Prelude.{codes}
use Rattle.sedre.specs.declared.types.Kind.TheVariants.{Basic, Extended}
use Rattle.sedre.specs.declared.types.ExprReason.TheVariants as expression
use Rattle.sedscript.specs.declared.types.Reason.TheVariants as fault
use Rattle.sedscript.specs.FirstFault.{Faulty}
use Rattle.examples.proofs.ComputedScript.{verdict, cutting, walked, has_fault}
use Rattle.examples.proofs.ScriptWords.{fault_at, expression_fault_at}
use Rattle.sedre.specs.Tokens.{token_at}
use Rattle.sedre.specs.Brackets.{list_at, list_end, delimiter_at}
use Rattle.examples.proofs.ComputedReading.{outcome, rest_of}
use Rattle.sedscript.specs.Bytes.{past}
use Rattle.sedscript.specs.Items.{match_at, address_at, second_at, addresses_at, substitute_at, function_at, item_at}
use Rattle.sedscript.specs.Letters.{substituted}
use Rattle.sedscript.specs.Arguments.{text_from}

-- There is no function where one is expected: that place.

no_such_function : Faulty (codes "k") Basic 65536 (fault_at 0 fault.UnknownCommand)
unfolding verdict cutting walked item_at past function_at addresses_at address_at
no_such_function = has_fault refl

no_function_on_the_line : Faulty (codes "1\n") Basic 65536 (fault_at 1 fault.UnknownCommand)
unfolding verdict cutting walked item_at past function_at addresses_at address_at
no_function_on_the_line = has_fault refl

no_function_before_a_semicolon : Faulty (codes "1;p") Basic 65536 (fault_at 1 fault.UnknownCommand)
unfolding verdict cutting walked item_at past function_at addresses_at address_at
no_function_before_a_semicolon = has_fault refl

no_function_after_a_bang : Faulty (codes "1!") Basic 65536 (fault_at 2 fault.UnknownCommand)
unfolding verdict cutting walked item_at past function_at addresses_at address_at
no_function_after_a_bang = has_fault refl

third_address : Faulty (codes "1,2,3p") Basic 65536 (fault_at 3 fault.UnknownCommand)
unfolding verdict cutting walked item_at past function_at addresses_at address_at second_at
third_address = has_fault refl

bang_before_a_label : Faulty (codes "!:a") Basic 65536 (fault_at 1 fault.UnknownCommand)
unfolding verdict cutting walked item_at past function_at addresses_at address_at text_from
bang_before_a_label = has_fault refl

bang_before_a_closing : Faulty (codes "!}") Basic 65536 (fault_at 1 fault.UnknownCommand)
unfolding verdict cutting walked item_at past function_at addresses_at address_at
bang_before_a_closing = has_fault refl

bang_before_a_comment : Faulty (codes "!#a") Basic 65536 (fault_at 1 fault.UnknownCommand)
unfolding verdict cutting walked item_at past function_at addresses_at address_at text_from
bang_before_a_comment = has_fault refl

bang_before_too_many_addresses : Faulty (codes "1,2!#a") Basic 65536 (fault_at 4 fault.UnknownCommand)
unfolding verdict cutting walked item_at past function_at addresses_at address_at second_at text_from
bang_before_too_many_addresses = has_fault refl

flag_after_a_blank : Faulty (codes "/a/ Ip") Basic 65536 (fault_at 4 fault.UnknownCommand)
unfolding verdict cutting walked item_at past function_at addresses_at address_at match_at substitute_at substituted delimiter_at outcome rest_of token_at text_from
flag_after_a_blank = has_fault refl

second_flag_of_an_address : Faulty (codes "/a/I I") Basic 65536 (fault_at 5 fault.UnknownCommand)
unfolding verdict cutting walked item_at past function_at addresses_at address_at match_at substitute_at substituted delimiter_at outcome rest_of token_at text_from
second_flag_of_an_address = has_fault refl

left_out_z : Faulty (codes "z") Basic 65536 (fault_at 0 fault.UnknownCommand)
unfolding verdict cutting walked item_at past function_at addresses_at address_at
left_out_z = has_fault refl

left_out_e : Faulty (codes "e") Basic 65536 (fault_at 0 fault.UnknownCommand)
unfolding verdict cutting walked item_at past function_at addresses_at address_at
left_out_e = has_fault refl

left_out_capital_f : Faulty (codes "F") Basic 65536 (fault_at 0 fault.UnknownCommand)
unfolding verdict cutting walked item_at past function_at addresses_at address_at
left_out_capital_f = has_fault refl

left_out_capital_q : Faulty (codes "Q") Basic 65536 (fault_at 0 fault.UnknownCommand)
unfolding verdict cutting walked item_at past function_at addresses_at address_at
left_out_capital_q = has_fault refl

left_out_step : Faulty (codes "1~2p") Basic 65536 (fault_at 1 fault.UnknownCommand)
unfolding verdict cutting walked item_at past function_at addresses_at address_at
left_out_step = has_fault refl

-- A function takes fewer addresses: its letter.

quit_with_two_addresses : Faulty (codes "1,2q") Basic 65536 (fault_at 3 fault.TooManyAddresses)
unfolding verdict cutting walked item_at past function_at addresses_at address_at second_at
quit_with_two_addresses = has_fault refl

quit_before_what_follows : Faulty (codes "1,2q x") Basic 65536 (fault_at 3 fault.TooManyAddresses)
unfolding verdict cutting walked item_at past function_at addresses_at address_at second_at
quit_before_what_follows = has_fault refl

label_with_an_address : Faulty (codes "1:a") Basic 65536 (fault_at 1 fault.TooManyAddresses)
unfolding verdict cutting walked item_at past function_at addresses_at address_at text_from
label_with_an_address = has_fault refl

closing_with_an_address : Faulty (codes "1}") Basic 65536 (fault_at 1 fault.TooManyAddresses)
unfolding verdict cutting walked item_at past function_at addresses_at address_at
closing_with_an_address = has_fault refl

comment_with_an_address : Faulty (codes "1#a") Basic 65536 (fault_at 1 fault.TooManyAddresses)
unfolding verdict cutting walked item_at past function_at addresses_at address_at text_from
comment_with_an_address = has_fault refl

-- A line's number is 0 or above 2 ^ 64 - 1, or no second address follows a comma.

line_0 : Faulty (codes "0p") Basic 65536 (fault_at 0 fault.BadAddress)
unfolding verdict cutting walked item_at past function_at addresses_at address_at
line_0 = has_fault refl

line_00 : Faulty (codes "00p") Basic 65536 (fault_at 0 fault.BadAddress)
unfolding verdict cutting walked item_at past function_at addresses_at address_at
line_00 = has_fault refl

line_2_to_the_64 : Faulty (codes "18446744073709551616p") Basic 65536 (fault_at 0 fault.BadAddress)
unfolding verdict cutting walked item_at past function_at addresses_at address_at
line_2_to_the_64 = has_fault refl

no_second_address : Faulty (codes "1,p") Basic 65536 (fault_at 2 fault.BadAddress)
unfolding verdict cutting walked item_at past function_at addresses_at address_at second_at
no_second_address = has_fault refl

no_second_address_on_the_line : Faulty (codes "1,\n") Basic 65536 (fault_at 2 fault.BadAddress)
unfolding verdict cutting walked item_at past function_at addresses_at address_at second_at
no_second_address_on_the_line = has_fault refl

second_line_0 : Faulty (codes "1,0p") Basic 65536 (fault_at 2 fault.BadAddress)
unfolding verdict cutting walked item_at past function_at addresses_at address_at second_at
second_line_0 = has_fault refl

left_out_offset : Faulty (codes "1,+2p") Basic 65536 (fault_at 2 fault.BadAddress)
unfolding verdict cutting walked item_at past function_at addresses_at address_at second_at
left_out_offset = has_fault refl

-- The delimiter that ends an address isn't there, or is none.

open_second_address : Faulty (codes "/a/,/b") Basic 65536 (fault_at 4 fault.OpenDelimiter)
unfolding verdict cutting walked item_at past function_at addresses_at address_at second_at match_at substitute_at substituted delimiter_at outcome rest_of token_at text_from
open_second_address = has_fault refl

open_list_in_an_address : Faulty (codes "/[/p") Basic 65536 (fault_at 0 fault.OpenDelimiter)
unfolding verdict cutting walked item_at past function_at addresses_at address_at match_at substitute_at substituted delimiter_at outcome rest_of token_at list_at list_end
open_list_in_an_address = has_fault refl

form_of_no_byte_in_an_address : Faulty (codes "/[[::]]/p") Basic 65536 (fault_at 0 fault.OpenDelimiter)
unfolding verdict cutting walked item_at past function_at addresses_at address_at match_at substitute_at substituted delimiter_at outcome rest_of token_at list_at list_end
form_of_no_byte_in_an_address = has_fault refl

address_over_two_lines : Faulty (codes "/a\n/p") Basic 65536 (fault_at 0 fault.OpenDelimiter)
unfolding verdict cutting walked item_at past function_at addresses_at address_at match_at substitute_at substituted delimiter_at outcome rest_of token_at text_from
address_over_two_lines = has_fault refl

open_address_with_its_own_delimiter : Faulty (codes "\\%a") Basic 65536 (fault_at 1 fault.OpenDelimiter)
unfolding verdict cutting walked item_at past function_at addresses_at address_at match_at substitute_at substituted delimiter_at outcome rest_of token_at text_from
open_address_with_its_own_delimiter = has_fault refl

no_delimiter : Faulty (codes "\\") Basic 65536 (fault_at 1 fault.BadDelimiter)
unfolding verdict cutting walked item_at past function_at addresses_at address_at match_at substitute_at substituted delimiter_at outcome rest_of token_at
no_delimiter = has_fault refl

backslash_as_delimiter : Faulty (codes "\\\\a\\p") Basic 65536 (fault_at 1 fault.BadDelimiter)
unfolding verdict cutting walked item_at past function_at addresses_at address_at match_at substitute_at substituted delimiter_at outcome rest_of token_at text_from
backslash_as_delimiter = has_fault refl

newline_as_delimiter : Faulty (codes "\\\na\np") Basic 65536 (fault_at 1 fault.BadDelimiter)
unfolding verdict cutting walked item_at past function_at addresses_at address_at match_at substitute_at substituted delimiter_at outcome rest_of token_at text_from
newline_as_delimiter = has_fault refl

-- A regular expression has a fault, reported at its place in the script and in the expression.

open_group_in_an_address : Faulty (codes "/\\(/p") Basic 65536 (expression_fault_at 3 2 expression.OpenGroup)
unfolding verdict cutting walked item_at past function_at addresses_at address_at match_at substitute_at substituted delimiter_at outcome rest_of token_at
open_group_in_an_address = has_fault refl

too_many_nodes_in_an_address : Faulty (codes "/ab/p") Basic 1 (expression_fault_at 3 2 expression.TooManyNodes)
unfolding verdict cutting walked item_at past function_at addresses_at address_at match_at substitute_at substituted delimiter_at outcome rest_of token_at text_from
too_many_nodes_in_an_address = has_fault refl

back_reference_in_an_address : Faulty (codes "/\\(a\\)\\1/p") Basic 65536 (expression_fault_at 6 5 expression.BackReference)
unfolding verdict cutting walked item_at past function_at addresses_at address_at match_at substitute_at substituted delimiter_at outcome rest_of token_at text_from
back_reference_in_an_address = has_fault refl

fault_of_the_second_address : Faulty (codes "/a/,/*/p") Extended 65536 (expression_fault_at 5 0 expression.NothingToRepeat)
unfolding verdict cutting walked item_at past function_at addresses_at address_at second_at match_at substitute_at substituted delimiter_at outcome rest_of token_at text_from
fault_of_the_second_address = has_fault refl

-- The flag I follows an empty expression.

flag_on_an_empty_address : Faulty (codes "//Ip") Basic 65536 (fault_at 2 fault.FlagOnEmpty)
unfolding verdict cutting walked item_at past function_at addresses_at address_at match_at substitute_at substituted delimiter_at outcome rest_of token_at
flag_on_an_empty_address = has_fault refl
