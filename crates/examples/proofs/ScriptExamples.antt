-- Examples of what scripts mean (XCU sed, "Extended Description"), computed by the definitions.
use Rattle.std.proofs.Common.{[], ◌∷◌, true, false, Some, None, refl}
use Rattle.std.specs.Prelude.{codes, ◌≡◌}
use Rattle.sedre.specs.declared.types.Kind.TheVariants.{Basic, Extended}
use Rattle.sedre.specs.Tree.{byte_of, sequence, either_of, grouped}
use Rattle.sedre.specs.Sets.{folded_set, only}
use Rattle.sedscript.specs.declared.types.Action.TheVariants as action
use Rattle.sedscript.specs.declared.types.Simple.TheVariants as simple
use Rattle.sedscript.specs.declared.types.BranchUse.TheVariants.{Always, IfReplaced}
use Rattle.sedscript.specs.declared.types.Address.TheVariants as address
use Rattle.examples.proofs.ComputedScript.{verdict, cutting, walked, Script, is_script}
use Rattle.examples.proofs.ScriptWords.{always, at, from_to, unless}
use Rattle.examples.proofs.ExampleWords.{byte}
use Rattle.sedre.specs.Tokens.{token_at, front_interval}
use Rattle.sedre.specs.Brackets.{delimiter_at}
use Rattle.examples.proofs.ComputedReading.{outcome, rest_of, written as written_out}
use Rattle.sedscript.specs.Bytes.{past}
use Rattle.sedscript.specs.Items.{match_at, address_at, second_at, addresses_at, substitute_at, function_at, item_at}
use Rattle.sedscript.specs.Letters.{substituted}
use Rattle.sedscript.specs.Arguments.{text_from}

-- Commands and what comes between them.

no_commands : Script (codes "") Basic (λ s. s.commands ≡ [])
unfolding verdict cutting walked item_at past function_at addresses_at address_at
no_commands = is_script refl

only_separators : Script (codes " ;\n\t;") Basic (λ s. s.commands ≡ [])
unfolding verdict cutting walked item_at past function_at addresses_at address_at
only_separators = is_script refl

print_twice : Script (codes "p;;p") Basic (λ s. s.commands ≡ always (action.Plain simple.Print) ∷ always (action.Plain simple.Print) ∷ [])
unfolding verdict cutting walked item_at past function_at addresses_at address_at
print_twice = is_script refl

blanks_and_newlines : Script (codes " p \n\tp ;") Basic (λ s. s.commands ≡ always (action.Plain simple.Print) ∷ always (action.Plain simple.Print) ∷ [])
unfolding verdict cutting walked item_at past function_at addresses_at address_at
blanks_and_newlines = is_script refl

comment_leaves_none : Script (codes "# a p\np") Basic (λ s. s.commands ≡ always (action.Plain simple.Print) ∷ [])
unfolding verdict cutting walked item_at past function_at addresses_at address_at text_from
comment_leaves_none = is_script refl

comment_after_a_command : Script (codes "p# p") Basic (λ s. s.commands ≡ always (action.Plain simple.Print) ∷ [])
unfolding verdict cutting walked item_at past function_at addresses_at address_at
comment_after_a_command = is_script refl

next_and_delete : Script (codes "n;d") Basic (λ s. s.commands ≡ always (action.Plain simple.NextLine) ∷ always (action.Plain simple.Delete) ∷ [])
unfolding verdict cutting walked item_at past function_at addresses_at address_at
next_and_delete = is_script refl

line_number : Script (codes "=") Basic (λ s. s.commands ≡ always (action.Plain simple.LineNumber) ∷ [])
unfolding verdict cutting walked item_at past function_at addresses_at address_at
line_number = is_script refl

each_letter : Script (codes "d;D;g;G;h;H;l;n;N;P;q;x") Basic (λ s. s.commands ≡ always (action.Plain simple.Delete) ∷ always (action.Plain simple.DeleteFirst) ∷ always (action.Plain simple.CopyHold) ∷ always (action.Plain simple.AppendHold) ∷ always (action.Plain simple.Hold) ∷ always (action.Plain simple.HoldMore) ∷ always (action.Plain simple.List) ∷ always (action.Plain simple.NextLine) ∷ always (action.Plain simple.AppendNext) ∷ always (action.Plain simple.PrintFirst) ∷ always (action.Plain simple.Quit) ∷ always (action.Plain simple.Exchange) ∷ [])
unfolding verdict cutting walked item_at past function_at addresses_at address_at
each_letter = is_script refl

-- Addresses: numbers, the last line, and `!` with blanks round it. Several `!` count as one.

one_line : Script (codes "2d") Basic (λ s. s.commands ≡ at (address.Line 2) (action.Plain simple.Delete) ∷ [])
unfolding verdict cutting walked item_at past function_at addresses_at address_at
one_line = is_script refl

blank_after_an_address : Script (codes "2 p") Basic (λ s. s.commands ≡ at (address.Line 2) (action.Plain simple.Print) ∷ [])
unfolding verdict cutting walked item_at past function_at addresses_at address_at
blank_after_an_address = is_script refl

leading_zero : Script (codes "01p") Basic (λ s. s.commands ≡ at (address.Line 1) (action.Plain simple.Print) ∷ [])
unfolding verdict cutting walked item_at past function_at addresses_at address_at
leading_zero = is_script refl

greatest_line : Script (codes "18446744073709551615p") Basic (λ s. s.commands ≡ at (address.Line 18446744073709551615) (action.Plain simple.Print) ∷ [])
unfolding verdict cutting walked item_at past function_at addresses_at address_at
greatest_line = is_script refl

quit_at_a_line : Script (codes "2q") Basic (λ s. s.commands ≡ at (address.Line 2) (action.Plain simple.Quit) ∷ [])
unfolding verdict cutting walked item_at past function_at addresses_at address_at
quit_at_a_line = is_script refl

but_the_last_line : Script (codes "$!d") Basic (λ s. s.commands ≡ unless (at address.Last (action.Plain simple.Delete)) ∷ [])
unfolding verdict cutting walked item_at past function_at addresses_at address_at
but_the_last_line = is_script refl

but_a_range : Script (codes "2,4!d") Basic (λ s. s.commands ≡ unless (from_to (address.Line 2) (address.Line 4) (action.Plain simple.Delete)) ∷ [])
unfolding verdict cutting walked item_at past function_at addresses_at address_at second_at
but_a_range = is_script refl

range_downwards : Script (codes "2,1p") Basic (λ s. s.commands ≡ from_to (address.Line 2) (address.Line 1) (action.Plain simple.Print) ∷ [])
unfolding verdict cutting walked item_at past function_at addresses_at address_at second_at
range_downwards = is_script refl

blanks_round_a_comma : Script (codes "1 , $ p") Basic (λ s. s.commands ≡ from_to (address.Line 1) address.Last (action.Plain simple.Print) ∷ [])
unfolding verdict cutting walked item_at past function_at addresses_at address_at second_at
blanks_round_a_comma = is_script refl

two_bangs : Script (codes "1 ! ! p") Basic (λ s. s.commands ≡ unless (at (address.Line 1) (action.Plain simple.Print)) ∷ [])
unfolding verdict cutting walked item_at past function_at addresses_at address_at
two_bangs = is_script refl

bang_without_an_address : Script (codes "!p") Basic (λ s. s.commands ≡ unless (always (action.Plain simple.Print)) ∷ [])
unfolding verdict cutting walked item_at past function_at addresses_at address_at
bang_without_an_address = is_script refl

reversed_lines : Script (codes "1!G;h;$!d") Basic (λ s. s.commands ≡ unless (at (address.Line 1) (action.Plain simple.AppendHold)) ∷ always (action.Plain simple.Hold) ∷ unless (at address.Last (action.Plain simple.Delete)) ∷ [])
unfolding verdict cutting walked item_at past function_at addresses_at address_at
reversed_lines = is_script refl

window_of_two : Script (codes "$!N;P;D") Basic (λ s. s.commands ≡ unless (at address.Last (action.Plain simple.AppendNext)) ∷ always (action.Plain simple.PrintFirst) ∷ always (action.Plain simple.DeleteFirst) ∷ [])
unfolding verdict cutting walked item_at past function_at addresses_at address_at
window_of_two = is_script refl

numbers_of_a_range : Script (codes "1,2=") Basic (λ s. s.commands ≡ from_to (address.Line 1) (address.Line 2) (action.Plain simple.LineNumber) ∷ [])
unfolding verdict cutting walked item_at past function_at addresses_at address_at second_at
numbers_of_a_range = is_script refl

number_of_a_line : Script (codes "2=;p") Basic (λ s. s.commands ≡ at (address.Line 2) (action.Plain simple.LineNumber) ∷ always (action.Plain simple.Print) ∷ [])
unfolding verdict cutting walked item_at past function_at addresses_at address_at
number_of_a_line = is_script refl

-- Regular expressions of addresses. An empty one has no number; they are numbered from 0.

expression_to_the_last_line : Script (codes "/b/,$d") Basic (λ s. s.commands ≡ from_to (address.Match (Some 0)) address.Last (action.Plain simple.Delete) ∷ [])
unfolding verdict cutting walked item_at past function_at addresses_at address_at second_at match_at substitute_at substituted delimiter_at outcome rest_of token_at
expression_to_the_last_line = is_script refl

two_expressions : Script (codes "/a/,/a/p") Basic (λ s. s.commands ≡ from_to (address.Match (Some 0)) (address.Match (Some 1)) (action.Plain simple.Print) ∷ [])
unfolding verdict cutting walked item_at past function_at addresses_at address_at second_at match_at substitute_at substituted delimiter_at outcome rest_of token_at text_from
two_expressions = is_script refl

own_delimiter : Script (codes "\\%a%p") Basic (λ s. s.commands ≡ at (address.Match (Some 0)) (action.Plain simple.Print) ∷ [])
unfolding verdict cutting walked item_at past function_at addresses_at address_at match_at substitute_at substituted delimiter_at outcome rest_of token_at text_from
own_delimiter = is_script refl

empty_expression : Script (codes "//p") Basic (λ s. s.commands ≡ at (address.Match None) (action.Plain simple.Print) ∷ [])
unfolding verdict cutting walked item_at past function_at addresses_at address_at match_at substitute_at substituted delimiter_at outcome rest_of token_at
empty_expression = is_script refl

line_to_an_expression : Script (codes "1,/a/p") Basic (λ s. s.commands ≡ from_to (address.Line 1) (address.Match (Some 0)) (action.Plain simple.Print) ∷ [])
unfolding verdict cutting walked item_at past function_at addresses_at address_at second_at match_at substitute_at substituted delimiter_at outcome rest_of token_at text_from
line_to_an_expression = is_script refl

expression_of_an_address : Script (codes "/a/p") Basic (λ s. s.expressions ≡ written_out (byte 97) 0 ∷ [])
unfolding verdict cutting walked item_at past function_at addresses_at address_at match_at substitute_at substituted delimiter_at outcome rest_of token_at text_from
expression_of_an_address = is_script refl

expression_with_its_own_delimiter : Script (codes "\\%a%p") Basic (λ s. s.expressions ≡ written_out (byte 97) 0 ∷ [])
unfolding verdict cutting walked item_at past function_at addresses_at address_at match_at substitute_at substituted delimiter_at outcome rest_of token_at text_from
expression_with_its_own_delimiter = is_script refl

escaped_own_delimiter : Script (codes "\\%a\\%%p") Basic (λ s. s.expressions ≡ written_out (sequence (byte 97) (byte 37)) 0 ∷ [])
unfolding verdict cutting walked item_at past function_at addresses_at address_at match_at substitute_at substituted delimiter_at outcome rest_of token_at text_from
escaped_own_delimiter = is_script refl

folded_expression : Script (codes "/A/Id") Basic (λ s. s.expressions ≡ written_out (byte_of (folded_set (only 65))) 0 ∷ [])
unfolding verdict cutting walked item_at past function_at addresses_at address_at match_at substitute_at substituted delimiter_at outcome rest_of token_at
folded_expression = is_script refl

extended_expression : Script (codes "/(a|b)/p") Extended (λ s. s.expressions ≡ written_out (grouped 1 (either_of (byte 97) (byte 98))) 1 ∷ [])
unfolding verdict cutting walked item_at past function_at addresses_at address_at match_at substitute_at substituted delimiter_at outcome rest_of token_at text_from
extended_expression = is_script refl

two_folded_expressions : Script (codes "/a/I,/b/Ip") Basic (λ s. s.expressions ≡ written_out (byte_of (folded_set (only 97))) 0 ∷ written_out (byte_of (folded_set (only 98))) 0 ∷ [])
unfolding verdict cutting walked item_at past function_at addresses_at address_at second_at match_at substitute_at substituted delimiter_at outcome rest_of token_at text_from
two_folded_expressions = is_script refl

-- Blocks and labels stand for the number of commands before them.

block : Script (codes "1{p;p}") Basic (λ s. s.commands ≡ at (address.Line 1) (action.Block 3) ∷ always (action.Plain simple.Print) ∷ always (action.Plain simple.Print) ∷ [])
unfolding verdict cutting walked item_at past function_at addresses_at address_at
block = is_script refl

block_and_closing_semicolon : Script (codes "/a/{//p;}") Basic (λ s. s.commands ≡ at (address.Match (Some 0)) (action.Block 2) ∷ at (address.Match None) (action.Plain simple.Print) ∷ [])
unfolding verdict cutting walked item_at past function_at addresses_at address_at match_at substitute_at substituted delimiter_at outcome rest_of token_at front_interval text_from
block_and_closing_semicolon = is_script refl

empty_block : Script (codes "{};p") Basic (λ s. s.commands ≡ always (action.Block 1) ∷ always (action.Plain simple.Print) ∷ [])
unfolding verdict cutting walked item_at past function_at addresses_at address_at
empty_block = is_script refl

block_within_a_block : Script (codes "{{p}}") Basic (λ s. s.commands ≡ always (action.Block 3) ∷ always (action.Block 3) ∷ always (action.Plain simple.Print) ∷ [])
unfolding verdict cutting walked item_at past function_at addresses_at address_at
block_within_a_block = is_script refl

branch_out_of_a_block : Script (codes "1{p;be;p};:e") Basic (λ s. s.commands ≡ at (address.Line 1) (action.Block 4) ∷ always (action.Plain simple.Print) ∷ always (action.Branch Always 4) ∷ always (action.Plain simple.Print) ∷ [])
unfolding verdict cutting walked item_at past function_at addresses_at address_at
branch_out_of_a_block = is_script refl

endless_loop : Script (codes ":a;ba") Basic (λ s. s.commands ≡ always (action.Branch Always 0) ∷ [])
unfolding verdict cutting walked item_at past function_at addresses_at address_at text_from
endless_loop = is_script refl

join_all_lines : Script (codes ":a;N;ba") Basic (λ s. s.commands ≡ always (action.Plain simple.AppendNext) ∷ always (action.Branch Always 0) ∷ [])
unfolding verdict cutting walked item_at past function_at addresses_at address_at text_from
join_all_lines = is_script refl

branch_to_the_end : Script (codes "b;p") Basic (λ s. s.commands ≡ always (action.Branch Always 2) ∷ always (action.Plain simple.Print) ∷ [])
unfolding verdict cutting walked item_at past function_at addresses_at address_at
branch_to_the_end = is_script refl

test_to_the_end : Script (codes "t;p") Basic (λ s. s.commands ≡ always (action.Branch IfReplaced 2) ∷ always (action.Plain simple.Print) ∷ [])
unfolding verdict cutting walked item_at past function_at addresses_at address_at
test_to_the_end = is_script refl

label_up_to_a_closing : Script (codes "{:a};ba") Basic (λ s. s.commands ≡ always (action.Block 1) ∷ always (action.Branch Always 1) ∷ [])
unfolding verdict cutting walked item_at past function_at addresses_at address_at text_from
label_up_to_a_closing = is_script refl

label_with_a_comment_sign : Script (codes ":a#;ba#") Basic (λ s. s.commands ≡ always (action.Branch Always 0) ∷ [])
unfolding verdict cutting walked item_at past function_at addresses_at address_at text_from
label_with_a_comment_sign = is_script refl

range_with_inner_commands : Script (codes "2,3{$!N;$!N;p;}") Basic (λ s. s.commands ≡ from_to (address.Line 2) (address.Line 3) (action.Block 4) ∷ unless (at address.Last (action.Plain simple.AppendNext)) ∷ unless (at address.Last (action.Plain simple.AppendNext)) ∷ always (action.Plain simple.Print) ∷ [])
unfolding verdict cutting walked item_at past function_at addresses_at address_at second_at
range_with_inner_commands = is_script refl

-- Whether the first line is exactly `#n`.

quiet : Script (codes "#n\n2p") Basic (λ s. s.quiet ≡ true)
unfolding verdict cutting walked item_at past function_at addresses_at address_at
quiet = is_script refl

quiet_alone : Script (codes "#n") Basic (λ s. s.quiet ≡ true)
unfolding verdict cutting walked item_at past function_at addresses_at address_at
quiet_alone = is_script refl

not_quiet_with_more : Script (codes "#n p\np") Basic (λ s. s.quiet ≡ false)
unfolding verdict cutting walked item_at past function_at addresses_at address_at
not_quiet_with_more = is_script refl

not_quiet_later : Script (codes "p\n#n") Basic (λ s. s.quiet ≡ false)
unfolding verdict cutting walked item_at past function_at addresses_at address_at
not_quiet_later = is_script refl

most_nodes : Script (codes "p") Basic (λ s. s.max_nodes ≡ 65536)
unfolding verdict cutting walked item_at past function_at addresses_at address_at
most_nodes = is_script refl
