-- Examples of whole runs, computed by the definitions, from the bytes of a script and of its input: addresses, blocks,
-- branches, and the functions `=`, `p`, `d` and `q` (XCU sed, "Addresses in sed", "Editing Commands in sed").
use Rattle.std.proofs.Common.{refl}
use Rattle.std.specs.Prelude.{codes}
use Rattle.std.specs.Fmt.{digits}
use Rattle.examples.proofs.ComputedReading.{outcome, rest_of}
use Rattle.sedre.specs.Tree.{tree_at, tree_within}
use Rattle.sedre.specs.Brackets.{list_at, list_end, delimiter_at}
use Rattle.sedre.specs.Tokens.{front_interval, token_at}
use Rattle.sedre.specs.Sets.{set_of}
use Rattle.sedmatch.specs.Matching.{any, greatest, copies, spans, longest, found_from, leftmost_longest}
use Rattle.examples.proofs.ComputedScript.{verdict, cutting, walked, is_script}
use Rattle.sedscript.specs.Items.{match_at, address_at, second_at, addresses_at, substitute_at, function_at, item_at}
use Rattle.sedscript.specs.Letters.{substituted}
use Rattle.sedscript.specs.Bytes.{past}
use Rattle.sedscript.specs.Arguments.{name_from, text_from}
use Rattle.sedspace.specs.Lines.{split_lines}
use Rattle.sedengine.specs.Move.{next_move}
use Rattle.sedengine.specs.Select.{selects}
use Rattle.examples.proofs.ComputedRun.{course, ends_after, Writes, QuietlyWrites}

delete_a_line : Writes (codes "2d") (codes "a\nb\nc\n") (codes "a\nc\n")
unfolding verdict cutting walked item_at past function_at addresses_at address_at second_at text_from name_from split_lines course next_move selects
delete_a_line = is_script (ends_after 200 refl refl)

print_twice : Writes (codes "p;;p") (codes "a\n") (codes "a\na\na\n")
unfolding verdict cutting walked item_at past function_at addresses_at address_at second_at text_from name_from split_lines course next_move selects
print_twice = is_script (ends_after 200 refl refl)

-- With -n. The last line has no newline, and gets one.
last_line_without_a_newline : QuietlyWrites (codes "2 p") (codes "a\nb") (codes "b\n")
unfolding verdict cutting walked item_at past function_at addresses_at address_at second_at text_from name_from split_lines course next_move selects
last_line_without_a_newline = is_script (ends_after 200 refl refl)

empty_input : Writes (codes "p") (codes "") (codes "")
unfolding verdict cutting walked item_at past function_at addresses_at address_at second_at text_from name_from split_lines course next_move selects
empty_input = is_script (ends_after 200 refl refl)

quit_at_a_line : Writes (codes "2q") (codes "1\n2\n3\n") (codes "1\n2\n")
unfolding verdict cutting walked item_at past function_at addresses_at address_at second_at text_from name_from split_lines course next_move selects
quit_at_a_line = is_script (ends_after 200 refl refl)

but_the_last_line : Writes (codes "$!d") (codes "1\n2\n3\n") (codes "3\n")
unfolding verdict cutting walked item_at past function_at addresses_at address_at second_at text_from name_from split_lines course next_move selects
but_the_last_line = is_script (ends_after 200 refl refl)

expression_to_the_last_line : Writes (codes "/b/,$d") (codes "a\nb\nc\n") (codes "a\n")
unfolding verdict cutting walked item_at past function_at addresses_at address_at second_at text_from name_from split_lines course next_move selects match_at substitute_at substituted delimiter_at outcome rest_of token_at front_interval set_of tree_at tree_within list_at list_end leftmost_longest found_from longest greatest spans any copies
expression_to_the_last_line = is_script (ends_after 200 refl refl)

but_a_range : Writes (codes "2,4!d") (codes "1\n2\n3\n4\n5\n") (codes "2\n3\n4\n")
unfolding verdict cutting walked item_at past function_at addresses_at address_at second_at text_from name_from split_lines course next_move selects
but_a_range = is_script (ends_after 200 refl refl)

-- A range that ends at a line before its first one selects that one alone.
but_a_range_downwards : Writes (codes "2,1!d") (codes "1\n2\n3\n") (codes "2\n")
unfolding verdict cutting walked item_at past function_at addresses_at address_at second_at text_from name_from split_lines course next_move selects
but_a_range_downwards = is_script (ends_after 200 refl refl)

-- With -n. The expression is tried from the line after the first one on.
line_to_an_expression : QuietlyWrites (codes "1,/a/p") (codes "a\nb\na\nc\n") (codes "a\nb\na\n")
unfolding verdict cutting walked item_at past function_at addresses_at address_at second_at text_from name_from split_lines course next_move selects match_at substitute_at substituted delimiter_at outcome rest_of token_at front_interval set_of tree_at tree_within list_at list_end leftmost_longest found_from longest greatest spans any copies
line_to_an_expression = is_script (ends_after 200 refl refl)

branch_out_of_a_block : Writes (codes "1{p;be;p};:e") (codes "a\nb\n") (codes "a\na\nb\n")
unfolding verdict cutting walked item_at past function_at addresses_at address_at second_at text_from name_from split_lines course next_move selects
branch_out_of_a_block = is_script (ends_after 200 refl refl)

-- With -n. The empty expression is the one last used.
empty_expression_in_a_block : QuietlyWrites (codes "/a/{//p;}") (codes "a\nb\n") (codes "a\n")
unfolding verdict cutting walked item_at past function_at addresses_at address_at second_at text_from name_from split_lines course next_move selects match_at substitute_at substituted delimiter_at outcome rest_of token_at front_interval set_of tree_at tree_within list_at list_end leftmost_longest found_from longest greatest spans any copies
empty_expression_in_a_block = is_script (ends_after 200 refl refl)

-- With -n.
own_delimiter : QuietlyWrites (codes "\\%a%p") (codes "a\nb\n") (codes "a\n")
unfolding verdict cutting walked item_at past function_at addresses_at address_at second_at text_from name_from split_lines course next_move selects match_at substitute_at substituted delimiter_at outcome rest_of token_at front_interval set_of tree_at tree_within list_at list_end leftmost_longest found_from longest greatest spans any copies
own_delimiter = is_script (ends_after 200 refl refl)

quiet_by_the_first_line : Writes (codes "#n\n2p") (codes "a\nb\n") (codes "b\n")
unfolding verdict cutting walked item_at past function_at addresses_at address_at second_at text_from name_from split_lines course next_move selects
quiet_by_the_first_line = is_script (ends_after 200 refl refl)

comment_in_the_first_line : Writes (codes "#n p\np") (codes "a\n") (codes "a\na\n")
unfolding verdict cutting walked item_at past function_at addresses_at address_at second_at text_from name_from split_lines course next_move selects
comment_in_the_first_line = is_script (ends_after 200 refl refl)

line_numbers : Writes (codes "=") (codes "a\nb\n") (codes "1\na\n2\nb\n")
unfolding verdict cutting walked item_at past function_at addresses_at address_at second_at text_from name_from split_lines course next_move selects digits
line_numbers = is_script (ends_after 200 refl refl)

-- With -n.
number_of_a_line : QuietlyWrites (codes "2=;p") (codes "a\nb\n") (codes "a\n2\nb\n")
unfolding verdict cutting walked item_at past function_at addresses_at address_at second_at text_from name_from split_lines course next_move selects digits
number_of_a_line = is_script (ends_after 200 refl refl)

-- With -n.
print_a_line : QuietlyWrites (codes "2p") (codes "a\nb\n") (codes "b\n")
unfolding verdict cutting walked item_at past function_at addresses_at address_at second_at text_from name_from split_lines course next_move selects
print_a_line = is_script (ends_after 200 refl refl)

-- With -n.
range_downwards : QuietlyWrites (codes "2,1p") (codes "1\n2\n3\n") (codes "2\n")
unfolding verdict cutting walked item_at past function_at addresses_at address_at second_at text_from name_from split_lines course next_move selects
range_downwards = is_script (ends_after 200 refl refl)

-- With -n. The second number is that of the line itself.
range_of_one_line : QuietlyWrites (codes "2,2p") (codes "1\n2\n3\n") (codes "2\n")
unfolding verdict cutting walked item_at past function_at addresses_at address_at second_at text_from name_from split_lines course next_move selects
range_of_one_line = is_script (ends_after 200 refl refl)

-- With -n.
range_of_equal_expressions : QuietlyWrites (codes "/a/,/a/p") (codes "a\nb\na\nc\n") (codes "a\nb\na\n")
unfolding verdict cutting walked item_at past function_at addresses_at address_at second_at text_from name_from split_lines course next_move selects match_at substitute_at substituted delimiter_at outcome rest_of token_at front_interval set_of tree_at tree_within list_at list_end leftmost_longest found_from longest greatest spans any copies
range_of_equal_expressions = is_script (ends_after 200 refl refl)

-- With -n. At line 4 the end of the range has passed; the line is judged anew, and begins a range of one line.
passed_range_judged_anew : QuietlyWrites (codes "/a/,2{N;N;p;}") (codes "a\nb\nc\na\nb\nc\n") (codes "a\nb\nc\na\nb\nc\n")
unfolding verdict cutting walked item_at past function_at addresses_at address_at second_at text_from name_from split_lines course next_move selects match_at substitute_at substituted delimiter_at outcome rest_of token_at front_interval set_of tree_at tree_within list_at list_end leftmost_longest found_from longest greatest spans any copies
passed_range_judged_anew = is_script (ends_after 200 refl refl)

-- With -n. The end of the range is passed when it is next judged, at line 5.
range_passed_within_its_block : QuietlyWrites (codes "2,3{$!N;$!N;p;}") (codes "1\n2\n3\n4\n5\n") (codes "2\n3\n4\n")
unfolding verdict cutting walked item_at past function_at addresses_at address_at second_at text_from name_from split_lines course next_move selects
range_passed_within_its_block = is_script (ends_after 200 refl refl)
