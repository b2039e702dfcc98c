-- Examples of whole runs within limits, computed by the definitions: from the bytes of a script and of its input to the end
-- and the bytes written up to it (the limits are this project's own).
use Rattle.std.proofs.Common.{ℕ, refl}
use Rattle.std.specs.Prelude.{codes}
use Rattle.examples.proofs.ComputedReading.{outcome, rest_of}
use Rattle.sedre.specs.Tree.{tree_at, tree_within}
use Rattle.sedre.specs.Brackets.{list_at, list_end, delimiter_at}
use Rattle.sedre.specs.Tokens.{front_interval, token_at}
use Rattle.sedre.specs.Sets.{set_of}
use Rattle.sedmatch.specs.Matching.{any, greatest, copies, spans, longest, found_from, leftmost_longest, greatest_cut, first_copy, last_start, groups_after, reported_groups}
use Rattle.examples.proofs.ComputedScript.{verdict, cutting, walked, is_script}
use Rattle.sedscript.specs.Items.{match_at, address_at, second_at, addresses_at, substitute_at, function_at, item_at}
use Rattle.sedscript.specs.Letters.{substituted}
use Rattle.sedscript.specs.Bytes.{past}
use Rattle.sedscript.specs.Arguments.{name_from, text_from}
use Rattle.sedspace.specs.Lines.{split_lines}
use Rattle.sedengine.specs.Move.{next_move}
use Rattle.sedengine.specs.Select.{selects}
use Rattle.sedengine.specs.Substitute.{occurrences_from}
use Rattle.examples.proofs.ComputedRun.{course, course, plain, no_files}
use Rattle.sedengine.specs.State.{LimitsView}
use Rattle.sedengine.specs.LimitRanges.{limits_of}
use Rattle.sedengine.specs.Types.{Done, PatternFull, HoldFull, QueueFull, TurnsSpent, NoPrevious}
use Rattle.examples.proofs.ComputedEnds.{all_fit, stops_after, EndsBy}
use Rattle.examples.proofs.LimitWords.{turns}

-- the program's own limits, but for the space or the queue
abbrev space : ℕ → LimitsView
space most = limits_of most 4096 65536 18446744073709551615 16384

abbrev queue : ℕ → LimitsView
queue most = limits_of 1048576 most 65536 18446744073709551615 16384

-- A cycle takes a turn and a command one: the second line has none.
turns_spent_at_a_line : EndsBy (turns 2) plain no_files (codes "2d") (codes "a\nb\n") TurnsSpent (codes "a\n")
unfolding verdict cutting walked item_at past function_at addresses_at address_at second_at text_from name_from split_lines course next_move selects all_fit
turns_spent_at_a_line = is_script (stops_after 6 refl refl refl refl)

no_turn_and_no_line : EndsBy (turns 0) plain no_files (codes "p") (codes "") Done (codes "")
unfolding verdict cutting walked item_at past function_at addresses_at address_at second_at text_from name_from split_lines course next_move selects all_fit
no_turn_and_no_line = is_script (stops_after 2 refl refl refl refl)

no_turn : EndsBy (turns 0) plain no_files (codes "p") (codes "a\n") TurnsSpent (codes "")
unfolding verdict cutting walked item_at past function_at addresses_at address_at second_at text_from name_from split_lines course next_move selects all_fit
no_turn = is_script (stops_after 0 refl refl refl refl)

-- The turn is due before the empty expression is looked for.
no_turn_for_a_command : EndsBy (turns 1) plain no_files (codes "//p") (codes "a\n") TurnsSpent (codes "")
unfolding verdict cutting walked item_at past function_at addresses_at address_at second_at text_from name_from split_lines course next_move selects all_fit match_at substitute_at substituted delimiter_at outcome rest_of token_at front_interval set_of tree_at tree_within list_at list_end leftmost_longest found_from longest greatest spans any copies
no_turn_for_a_command = is_script (stops_after 1 refl refl refl refl)

no_previous_expression : EndsBy (turns 2) plain no_files (codes "//p") (codes "a\n") (NoPrevious 1) (codes "")
unfolding verdict cutting walked item_at past function_at addresses_at address_at second_at text_from name_from split_lines course next_move selects all_fit match_at substitute_at substituted delimiter_at outcome rest_of token_at front_interval set_of tree_at tree_within list_at list_end leftmost_longest found_from longest greatest spans any copies
no_previous_expression = is_script (stops_after 1 refl refl refl refl)

no_previous_expression_within_the_limits : EndsBy (turns 18446744073709551615) plain no_files (codes "//p") (codes "a\n") (NoPrevious 1) (codes "")
unfolding verdict cutting walked item_at past function_at addresses_at address_at second_at text_from name_from split_lines course next_move selects all_fit match_at substitute_at substituted delimiter_at outcome rest_of token_at front_interval set_of tree_at tree_within list_at list_end leftmost_longest found_from longest greatest spans any copies
no_previous_expression_within_the_limits = is_script (stops_after 1 refl refl refl refl)

substitution_past_the_space : EndsBy (space 3) plain no_files (codes "s/b/&&/") (codes "abc\n") (PatternFull 1) (codes "")
unfolding verdict cutting walked item_at past function_at addresses_at address_at second_at text_from name_from split_lines course next_move selects all_fit match_at substitute_at substituted delimiter_at outcome rest_of token_at front_interval set_of tree_at tree_within list_at list_end leftmost_longest found_from longest greatest spans any copies reported_groups groups_after greatest_cut first_copy last_start occurrences_from
substitution_past_the_space = is_script (stops_after 1 refl refl refl refl)

substitution_within_the_space : EndsBy (space 3) plain no_files (codes "s/abc/x/") (codes "abc\n") Done (codes "x\n")
unfolding verdict cutting walked item_at past function_at addresses_at address_at second_at text_from name_from split_lines course next_move selects all_fit match_at substitute_at substituted delimiter_at outcome rest_of token_at front_interval set_of tree_at tree_within list_at list_end leftmost_longest found_from longest greatest spans any copies reported_groups groups_after greatest_cut first_copy last_start occurrences_from
substitution_within_the_space = is_script (stops_after 7 refl refl refl refl)

-- Each byte of a file takes a turn.
turns_spent_in_a_file : EndsBy (turns 4) plain (λ k. codes "FGH") (codes "r f") (codes "a\n") TurnsSpent (codes "a\nFG")
unfolding verdict cutting walked item_at past function_at addresses_at address_at second_at text_from name_from split_lines course next_move selects all_fit
turns_spent_in_a_file = is_script (stops_after 7 refl refl refl refl)

no_room_in_the_queue : EndsBy (queue 0) plain no_files (codes "r f") (codes "a\n") (QueueFull 1) (codes "")
unfolding verdict cutting walked item_at past function_at addresses_at address_at second_at text_from name_from split_lines course next_move selects all_fit
no_room_in_the_queue = is_script (stops_after 1 refl refl refl refl)

joined_past_the_space : EndsBy (space 3) plain no_files (codes "N") (codes "ab\nc\n") (PatternFull 2) (codes "")
unfolding verdict cutting walked item_at past function_at addresses_at address_at second_at text_from name_from split_lines course next_move selects all_fit
joined_past_the_space = is_script (stops_after 3 refl refl refl refl)

joined_within_the_space : EndsBy (space 4) plain no_files (codes "N") (codes "ab\nc\n") Done (codes "ab\nc\n")
unfolding verdict cutting walked item_at past function_at addresses_at address_at second_at text_from name_from split_lines course next_move selects all_fit
joined_within_the_space = is_script (stops_after 9 refl refl refl refl)

next_line_past_the_space : EndsBy (space 1) plain no_files (codes "n") (codes "a\nbc\n") (PatternFull 2) (codes "a\n")
unfolding verdict cutting walked item_at past function_at addresses_at address_at second_at text_from name_from split_lines course next_move selects all_fit
next_line_past_the_space = is_script (stops_after 5 refl refl refl refl)

-- `D` goes on with what is left, without a further line.
three_lines_within_the_space : EndsBy (space 5) plain no_files (codes "N;N;D") (codes "1\n2\n3\n") Done (codes "")
unfolding verdict cutting walked item_at past function_at addresses_at address_at second_at text_from name_from split_lines course next_move selects all_fit
three_lines_within_the_space = is_script (stops_after 40 refl refl refl refl)

two_lines_within_the_space : EndsBy (space 3) plain no_files (codes "N;D") (codes "1\n2\n3\n4\n") Done (codes "")
unfolding verdict cutting walked item_at past function_at addresses_at address_at second_at text_from name_from split_lines course next_move selects all_fit
two_lines_within_the_space = is_script (stops_after 60 refl refl refl refl)

growing_in_a_loop : EndsBy (space 5) plain no_files (codes ":a;s/^/x/;ta") (codes "a\n") (PatternFull 1) (codes "")
unfolding verdict cutting walked item_at past function_at addresses_at address_at second_at text_from name_from split_lines course next_move selects all_fit match_at substitute_at substituted delimiter_at outcome rest_of token_at front_interval set_of tree_at tree_within list_at list_end leftmost_longest found_from longest greatest spans any copies reported_groups groups_after greatest_cut first_copy last_start occurrences_from
growing_in_a_loop = is_script (stops_after 9 refl refl refl refl)

endless_deletions : EndsBy (turns 10) plain no_files (codes "s/^/\\n/;D") (codes "a\n") TurnsSpent (codes "")
unfolding verdict cutting walked item_at past function_at addresses_at address_at second_at text_from name_from split_lines course next_move selects all_fit match_at substitute_at substituted delimiter_at outcome rest_of token_at front_interval set_of tree_at tree_within list_at list_end leftmost_longest found_from longest greatest spans any copies reported_groups groups_after greatest_cut first_copy last_start occurrences_from
endless_deletions = is_script (stops_after 13 refl refl refl refl)

least_room : EndsBy (limits_of 1 0 1 18446744073709551615 1) plain no_files (codes "p") (codes "a\nb\n") Done (codes "a\na\nb\nb\n")
unfolding verdict cutting walked item_at past function_at addresses_at address_at second_at text_from name_from split_lines course next_move selects all_fit
least_room = is_script (stops_after 20 refl refl refl refl)

least_room_to_substitute : EndsBy (limits_of 1 0 1 18446744073709551615 1) plain no_files (codes "s/a/b/") (codes "a\n") Done (codes "b\n")
unfolding verdict cutting walked item_at past function_at addresses_at address_at second_at text_from name_from split_lines course next_move selects all_fit match_at substitute_at substituted delimiter_at outcome rest_of token_at front_interval set_of tree_at tree_within list_at list_end leftmost_longest found_from longest greatest spans any copies reported_groups groups_after greatest_cut first_copy last_start occurrences_from
least_room_to_substitute = is_script (stops_after 20 refl refl refl refl)

hold_space_past_the_space : EndsBy (space 1) plain no_files (codes "G") (codes "a\n") (PatternFull 1) (codes "")
unfolding verdict cutting walked item_at past function_at addresses_at address_at second_at text_from name_from split_lines course next_move selects all_fit
hold_space_past_the_space = is_script (stops_after 1 refl refl refl refl)

next_line_read_past_the_space : EndsBy (space 3) plain no_files (codes "p") (codes "ab\nabcd\n") (PatternFull 2) (codes "ab\nab\n")
unfolding verdict cutting walked item_at past function_at addresses_at address_at second_at text_from name_from split_lines course next_move selects all_fit
next_line_read_past_the_space = is_script (stops_after 6 refl refl refl refl)

line_of_the_space : EndsBy (space 3) plain no_files (codes "p") (codes "abc\n") Done (codes "abc\nabc\n")
unfolding verdict cutting walked item_at past function_at addresses_at address_at second_at text_from name_from split_lines course next_move selects all_fit
line_of_the_space = is_script (stops_after 20 refl refl refl refl)

appended_past_the_space : EndsBy (space 3) plain no_files (codes "G;G;G") (codes "a\n") (PatternFull 1) (codes "")
unfolding verdict cutting walked item_at past function_at addresses_at address_at second_at text_from name_from split_lines course next_move selects all_fit
appended_past_the_space = is_script (stops_after 3 refl refl refl refl)

hold_past_the_space : EndsBy (space 3) plain no_files (codes "H;H") (codes "ab\n") (HoldFull 1) (codes "")
unfolding verdict cutting walked item_at past function_at addresses_at address_at second_at text_from name_from split_lines course next_move selects all_fit
hold_past_the_space = is_script (stops_after 2 refl refl refl refl)

second_entry_of_the_queue : EndsBy (queue 1) plain no_files (codes "a X\na Y") (codes "a\n") (QueueFull 1) (codes "")
unfolding verdict cutting walked item_at past function_at addresses_at address_at second_at text_from name_from split_lines course next_move selects all_fit
second_entry_of_the_queue = is_script (stops_after 2 refl refl refl refl)

endless_branches : EndsBy (turns 100) plain no_files (codes ":a;ba") (codes "a\n") TurnsSpent (codes "")
unfolding verdict cutting walked item_at past function_at addresses_at address_at second_at text_from name_from split_lines course next_move selects all_fit
endless_branches = is_script (stops_after 100 refl refl refl refl)

turns_spent_at_a_command : EndsBy (turns 3) plain no_files (codes "p") (codes "a\nb\n") TurnsSpent (codes "a\na\n")
unfolding verdict cutting walked item_at past function_at addresses_at address_at second_at text_from name_from split_lines course next_move selects all_fit
turns_spent_at_a_command = is_script (stops_after 7 refl refl refl refl)

turns_enough : EndsBy (turns 4) plain no_files (codes "p") (codes "a\nb\n") Done (codes "a\na\nb\nb\n")
unfolding verdict cutting walked item_at past function_at addresses_at address_at second_at text_from name_from split_lines course next_move selects all_fit
turns_enough = is_script (stops_after 20 refl refl refl refl)

-- A cycle and each opening brace take a turn, a closing brace takes none.
blocks_within_turns : EndsBy (turns 4) plain no_files (codes "{{{}}}") (codes "a\n") Done (codes "a\n")
unfolding verdict cutting walked item_at past function_at addresses_at address_at second_at text_from name_from split_lines course next_move selects all_fit
blocks_within_turns = is_script (stops_after 20 refl refl refl refl)

blocks_past_the_turns : EndsBy (turns 3) plain no_files (codes "{{{}}}") (codes "a\n") TurnsSpent (codes "")
unfolding verdict cutting walked item_at past function_at addresses_at address_at second_at text_from name_from split_lines course next_move selects all_fit
blocks_past_the_turns = is_script (stops_after 3 refl refl refl refl)
