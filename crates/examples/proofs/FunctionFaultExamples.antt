-- Examples of scripts that are refused for their texts, names, labels, blocks and ends (XCU sed, "Extended Description"), with their places, computed by the definitions.
-- Which fault a script has, and where, is this project's own.
use Rattle.std.proofs.Common.{refl}
use Rattle.std.specs.Prelude.{codes}
use Rattle.sedre.specs.declared.types.Kind.TheVariants.{Basic}
use Rattle.sedscript.specs.declared.types.Reason.TheVariants as fault
use Rattle.sedscript.specs.FirstFault.{Faulty}
use Rattle.examples.proofs.ComputedScript.{verdict, cutting, walked, has_fault}
use Rattle.examples.proofs.ScriptWords.{fault_at}
use Rattle.sedre.specs.Tokens.{token_at}
use Rattle.sedre.specs.Brackets.{delimiter_at}
use Rattle.examples.proofs.ComputedReading.{outcome, rest_of}
use Rattle.sedscript.specs.Bytes.{past}
use Rattle.sedscript.specs.Items.{match_at, address_at, addresses_at, substitute_at, function_at, item_at}
use Rattle.sedscript.specs.Letters.{substituted}
use Rattle.sedscript.specs.Arguments.{text_from, name_from}

-- The text of `a`, `i` or `c` is missing: the letter.

no_text : Faulty (codes "a") Basic 65536 (fault_at 0 fault.MissingText)
unfolding verdict cutting walked item_at past function_at addresses_at address_at text_from
no_text = has_fault refl

no_inserted_text : Faulty (codes "i") Basic 65536 (fault_at 0 fault.MissingText)
unfolding verdict cutting walked item_at past function_at addresses_at address_at text_from
no_inserted_text = has_fault refl

no_changing_text : Faulty (codes "1c") Basic 65536 (fault_at 1 fault.MissingText)
unfolding verdict cutting walked item_at past function_at addresses_at address_at text_from
no_changing_text = has_fault refl

no_text_on_the_line : Faulty (codes "a\np") Basic 65536 (fault_at 0 fault.MissingText)
unfolding verdict cutting walked item_at past function_at addresses_at address_at text_from
no_text_on_the_line = has_fault refl

backslash_without_a_line : Faulty (codes "a\\") Basic 65536 (fault_at 0 fault.MissingText)
unfolding verdict cutting walked item_at past function_at addresses_at address_at match_at substitute_at substituted delimiter_at outcome rest_of token_at text_from
backslash_without_a_line = has_fault refl

backslash_and_an_empty_rest : Faulty (codes "a\\\n") Basic 65536 (fault_at 0 fault.MissingText)
unfolding verdict cutting walked item_at past function_at addresses_at address_at match_at substitute_at substituted delimiter_at outcome rest_of token_at text_from
backslash_and_an_empty_rest = has_fault refl

further_line_missing : Faulty (codes "a x\\") Basic 65536 (fault_at 0 fault.MissingText)
unfolding verdict cutting walked item_at past function_at addresses_at address_at match_at substitute_at substituted delimiter_at outcome rest_of token_at text_from
further_line_missing = has_fault refl

further_line_empty : Faulty (codes "a x\\\n") Basic 65536 (fault_at 0 fault.MissingText)
unfolding verdict cutting walked item_at past function_at addresses_at address_at match_at substitute_at substituted delimiter_at outcome rest_of token_at text_from
further_line_empty = has_fault refl

-- A file's name is missing: the letter.

no_name_to_read : Faulty (codes "r") Basic 65536 (fault_at 0 fault.MissingName)
unfolding verdict cutting walked item_at past function_at addresses_at address_at name_from
no_name_to_read = has_fault refl

no_name_to_write : Faulty (codes "1w") Basic 65536 (fault_at 1 fault.MissingName)
unfolding verdict cutting walked item_at past function_at addresses_at address_at name_from
no_name_to_write = has_fault refl

blanks_for_a_name : Faulty (codes "r  \np") Basic 65536 (fault_at 0 fault.MissingName)
unfolding verdict cutting walked item_at past function_at addresses_at address_at name_from
blanks_for_a_name = has_fault refl

-- A label has no name: its colon.

no_label : Faulty (codes ":") Basic 65536 (fault_at 0 fault.MissingLabel)
unfolding verdict cutting walked item_at past function_at addresses_at address_at
no_label = has_fault refl

no_label_before_a_closing : Faulty (codes ":}") Basic 65536 (fault_at 0 fault.MissingLabel)
unfolding verdict cutting walked item_at past function_at addresses_at address_at
no_label_before_a_closing = has_fault refl

no_label_before_a_semicolon : Faulty (codes ":;") Basic 65536 (fault_at 0 fault.MissingLabel)
unfolding verdict cutting walked item_at past function_at addresses_at address_at
no_label_before_a_semicolon = has_fault refl

-- Something follows a command that doesn't end it: that byte.

second_command_after_a_blank : Faulty (codes "p x") Basic 65536 (fault_at 2 fault.TrailingBytes)
unfolding verdict cutting walked item_at past function_at addresses_at address_at
second_command_after_a_blank = has_fault refl

second_command_at_once : Faulty (codes "pp") Basic 65536 (fault_at 1 fault.TrailingBytes)
unfolding verdict cutting walked item_at past function_at addresses_at address_at
second_command_at_once = has_fault refl

exit_code : Faulty (codes "q5") Basic 65536 (fault_at 1 fault.TrailingBytes)
unfolding verdict cutting walked item_at past function_at addresses_at address_at
exit_code = has_fault refl

width_of_a_list : Faulty (codes "l 5") Basic 65536 (fault_at 2 fault.TrailingBytes)
unfolding verdict cutting walked item_at past function_at addresses_at address_at
width_of_a_list = has_fault refl

second_label : Faulty (codes ":a b") Basic 65536 (fault_at 3 fault.TrailingBytes)
unfolding verdict cutting walked item_at past function_at addresses_at address_at text_from
second_label = has_fault refl

command_after_a_closing : Faulty (codes "{p}p") Basic 65536 (fault_at 3 fault.TrailingBytes)
unfolding verdict cutting walked item_at past function_at addresses_at address_at
command_after_a_closing = has_fault refl

-- A label isn't there or occurs twice, a block isn't closed or not open; these come after all others, the least place
-- first.

no_such_label : Faulty (codes "b x") Basic 65536 (fault_at 0 fault.UnknownLabel)
unfolding verdict cutting walked item_at past function_at addresses_at address_at
no_such_label = has_fault refl

no_such_label_to_test : Faulty (codes "p;t x") Basic 65536 (fault_at 2 fault.UnknownLabel)
unfolding verdict cutting walked item_at past function_at addresses_at address_at
no_such_label_to_test = has_fault refl

label_twice : Faulty (codes ":a;:a") Basic 65536 (fault_at 3 fault.RepeatedLabel)
unfolding verdict cutting walked item_at past function_at addresses_at address_at text_from
label_twice = has_fault refl

open_block : Faulty (codes "1{p") Basic 65536 (fault_at 1 fault.OpenBlock)
unfolding verdict cutting walked item_at past function_at addresses_at address_at
open_block = has_fault refl

open_block_by_a_text : Faulty (codes "1{a foo}") Basic 65536 (fault_at 1 fault.OpenBlock)
unfolding verdict cutting walked item_at past function_at addresses_at address_at text_from
open_block_by_a_text = has_fault refl

open_block_by_an_inserted_text : Faulty (codes "1{i foo}") Basic 65536 (fault_at 1 fault.OpenBlock)
unfolding verdict cutting walked item_at past function_at addresses_at address_at text_from
open_block_by_an_inserted_text = has_fault refl

outermost_open_block : Faulty (codes "{{p") Basic 65536 (fault_at 0 fault.OpenBlock)
unfolding verdict cutting walked item_at past function_at addresses_at address_at
outermost_open_block = has_fault refl

inner_block_closed : Faulty (codes "{{p}") Basic 65536 (fault_at 0 fault.OpenBlock)
unfolding verdict cutting walked item_at past function_at addresses_at address_at
inner_block_closed = has_fault refl

stray_closing : Faulty (codes "}") Basic 65536 (fault_at 0 fault.StrayClose)
unfolding verdict cutting walked item_at past function_at addresses_at address_at
stray_closing = has_fault refl

second_closing : Faulty (codes "{p}}") Basic 65536 (fault_at 3 fault.StrayClose)
unfolding verdict cutting walked item_at past function_at addresses_at address_at
second_closing = has_fault refl

early_fault_before_a_stray_closing : Faulty (codes "};k") Basic 65536 (fault_at 2 fault.UnknownCommand)
unfolding verdict cutting walked item_at past function_at addresses_at address_at
early_fault_before_a_stray_closing = has_fault refl

early_fault_before_a_missing_label : Faulty (codes "b x;k") Basic 65536 (fault_at 4 fault.UnknownCommand)
unfolding verdict cutting walked item_at past function_at addresses_at address_at
early_fault_before_a_missing_label = has_fault refl

missing_label_before_a_stray_closing : Faulty (codes "b x;}") Basic 65536 (fault_at 0 fault.UnknownLabel)
unfolding verdict cutting walked item_at past function_at addresses_at address_at
missing_label_before_a_stray_closing = has_fault refl

stray_closing_before_a_missing_label : Faulty (codes "};b x") Basic 65536 (fault_at 0 fault.StrayClose)
unfolding verdict cutting walked item_at past function_at addresses_at address_at
stray_closing_before_a_missing_label = has_fault refl
