-- Examples of whole runs, computed by the definitions, from the bytes of a script and of its input: the hold space, further
-- lines, and what is queued or written to files (XCU sed, "Editing Commands in sed").
use Rattle.std.proofs.Common.{◌++◌, refl}
use Rattle.std.specs.Prelude.{codes}
use Rattle.examples.proofs.ComputedReading.{outcome, rest_of}
use Rattle.sedre.specs.Tree.{tree_at, tree_within}
use Rattle.sedre.specs.Brackets.{list_at, list_end, delimiter_at}
use Rattle.sedre.specs.Tokens.{front_interval, token_at}
use Rattle.sedre.specs.Sets.{set_of}
use Rattle.sedmatch.specs.Matching.{any, greatest, copies, spans, longest, found_from, leftmost_longest, greatest_cut, first_copy, last_start, groups_after, reported_groups}
use Rattle.examples.proofs.ComputedScript.{verdict, cutting, walked, is_script}
use Rattle.sedscript.specs.Items.{match_at, address_at, second_at, addresses_at, substitute_at, function_at, item_at}
use Rattle.sedscript.specs.Letters.{substituted}
use Rattle.sedscript.specs.Bytes.{past}
use Rattle.sedscript.specs.Arguments.{name_from, text_from}
use Rattle.sedspace.specs.Lines.{split_lines}
use Rattle.sedengine.specs.Move.{next_move, to_sink}
use Rattle.sedengine.specs.Select.{selects}
use Rattle.sedengine.specs.Substitute.{occurrences_from}
use Rattle.examples.proofs.ComputedRun.{course, ends_after, Writes, QuietlyWrites, Edits, plain, no_files}
use Rattle.sedre.specs.declared.types.Kind.TheVariants.{Basic}

-- `g` brings back what `h` kept.
copied_from_the_hold_space : Writes (codes "h;s/a/b/;g") (codes "a\n") (codes "a\n")
unfolding verdict cutting walked item_at past function_at addresses_at address_at second_at text_from name_from split_lines course next_move selects match_at substitute_at substituted delimiter_at outcome rest_of token_at front_interval set_of tree_at tree_within list_at list_end leftmost_longest found_from longest greatest spans any copies reported_groups groups_after greatest_cut first_copy last_start occurrences_from
copied_from_the_hold_space = is_script (ends_after 200 refl refl)

reversed_lines : Writes (codes "1!G;h;$!d") (codes "1\n2\n3\n") (codes "3\n2\n1\n")
unfolding verdict cutting walked item_at past function_at addresses_at address_at second_at text_from name_from split_lines course next_move selects
reversed_lines = is_script (ends_after 200 refl refl)

-- `N` without a next line ends the run, and the pattern space isn't written.
no_next_line_in_a_loop : Writes (codes ":a;N;ba") (codes "1\n2\n3\n") (codes "")
unfolding verdict cutting walked item_at past function_at addresses_at address_at second_at text_from name_from split_lines course next_move selects
no_next_line_in_a_loop = is_script (ends_after 200 refl refl)

lines_joined_in_a_loop : Writes (codes ":a;$!{N;ba;};s/\\n/-/g") (codes "1\n2\n3\n") (codes "1-2-3\n")
unfolding verdict cutting walked item_at past function_at addresses_at address_at second_at text_from name_from split_lines course next_move selects match_at substitute_at substituted delimiter_at outcome rest_of token_at front_interval set_of tree_at tree_within list_at list_end leftmost_longest found_from longest greatest spans any copies reported_groups groups_after greatest_cut first_copy last_start occurrences_from
lines_joined_in_a_loop = is_script (ends_after 200 refl refl)

text_after_a_deletion : Writes (codes "a X\nD") (codes "a\n") (codes "X\n")
unfolding verdict cutting walked item_at past function_at addresses_at address_at second_at text_from name_from split_lines course next_move selects
text_after_a_deletion = is_script (ends_after 200 refl refl)

-- `n` writes what is queued before the next line is read.
text_before_the_next_line : Writes (codes "a X\nn;d") (codes "1\n2\n") (codes "1\nX\n")
unfolding verdict cutting walked item_at past function_at addresses_at address_at second_at text_from name_from split_lines course next_move selects
text_before_the_next_line = is_script (ends_after 200 refl refl)

-- The file is sink 1.
write_to_a_file : Edits Basic plain no_files (codes "p;w out") (codes "a\n")
    (to_sink 0 (codes "a\n") ++ to_sink 1 (codes "a\n") ++ to_sink 0 (codes "a\n"))
unfolding verdict cutting walked item_at past function_at addresses_at address_at second_at text_from name_from split_lines course next_move selects
write_to_a_file = is_script (ends_after 200 refl refl)

-- The flag `w` of `s`, after its flag `p`.
flag_write : Edits Basic plain no_files (codes "s/a/b/pw out") (codes "a\n")
    (to_sink 0 (codes "b\n") ++ to_sink 1 (codes "b\n") ++ to_sink 0 (codes "b\n"))
unfolding verdict cutting walked item_at past function_at addresses_at address_at second_at text_from name_from split_lines course next_move selects match_at substitute_at substituted delimiter_at outcome rest_of token_at front_interval set_of tree_at tree_within list_at list_end leftmost_longest found_from longest greatest spans any copies reported_groups groups_after greatest_cut first_copy last_start occurrences_from
flag_write = is_script (ends_after 200 refl refl)

write_to_the_standard_output : Writes (codes "w /dev/stdout") (codes "a\n") (codes "a\na\n")
unfolding verdict cutting walked item_at past function_at addresses_at address_at second_at text_from name_from split_lines course next_move selects
write_to_the_standard_output = is_script (ends_after 200 refl refl)

-- A file that can't be read is as an empty one.
file_that_is_empty : Writes (codes "r none") (codes "a\n") (codes "a\n")
unfolding verdict cutting walked item_at past function_at addresses_at address_at second_at text_from name_from split_lines course next_move selects
file_that_is_empty = is_script (ends_after 200 refl refl)

-- A file's bytes are written as they are: no newline is put after them.
file_after_the_line : Edits Basic plain (λ k. codes "FGH") (codes "r f") (codes "a\n") (to_sink 0 (codes "a\nFGH"))
unfolding verdict cutting walked item_at past function_at addresses_at address_at second_at text_from name_from split_lines course next_move selects
file_after_the_line = is_script (ends_after 200 refl refl)

joined_by_two : Writes (codes "N") (codes "ab\nc\n") (codes "ab\nc\n")
unfolding verdict cutting walked item_at past function_at addresses_at address_at second_at text_from name_from split_lines course next_move selects
joined_by_two = is_script (ends_after 200 refl refl)

window_of_two : Writes (codes "$!N;P;D") (codes "1\n2\n3\n") (codes "1\n2\n3\n")
unfolding verdict cutting walked item_at past function_at addresses_at address_at second_at text_from name_from split_lines course next_move selects
window_of_two = is_script (ends_after 200 refl refl)

-- `D` goes on with what is left, without a further line.
three_lines_deleted : Writes (codes "N;N;D") (codes "1\n2\n3\n") (codes "")
unfolding verdict cutting walked item_at past function_at addresses_at address_at second_at text_from name_from split_lines course next_move selects
three_lines_deleted = is_script (ends_after 200 refl refl)

two_lines_deleted : Writes (codes "N;D") (codes "1\n2\n3\n4\n") (codes "")
unfolding verdict cutting walked item_at past function_at addresses_at address_at second_at text_from name_from split_lines course next_move selects
two_lines_deleted = is_script (ends_after 200 refl refl)

-- `N` without a next line ends the run, and the pattern space isn't written.
last_line_alone : Writes (codes "N") (codes "1\n2\n3\n") (codes "1\n2\n")
unfolding verdict cutting walked item_at past function_at addresses_at address_at second_at text_from name_from split_lines course next_move selects
last_line_alone = is_script (ends_after 200 refl refl)

next_and_delete : Writes (codes "n;d") (codes "1\n2\n3\n") (codes "1\n3\n")
unfolding verdict cutting walked item_at past function_at addresses_at address_at second_at text_from name_from split_lines course next_move selects
next_and_delete = is_script (ends_after 200 refl refl)

text_and_quit : Writes (codes "1a X\n1q") (codes "a\nb\n") (codes "a\nX\n")
unfolding verdict cutting walked item_at past function_at addresses_at address_at second_at text_from name_from split_lines course next_move selects
text_and_quit = is_script (ends_after 200 refl refl)

text_before_no_next_line : Writes (codes "a X\nN") (codes "1\n") (codes "X\n")
unfolding verdict cutting walked item_at past function_at addresses_at address_at second_at text_from name_from split_lines course next_move selects
text_before_no_next_line = is_script (ends_after 200 refl refl)

-- The next line follows where the file ends.
file_without_a_newline : Edits Basic plain (λ k. codes "F") (codes "1r f") (codes "a\nb\n") (to_sink 0 (codes "a\nFb\n"))
unfolding verdict cutting walked item_at past function_at addresses_at address_at second_at text_from name_from split_lines course next_move selects
file_without_a_newline = is_script (ends_after 200 refl refl)

-- With -n.
hold_space_by_the_end : QuietlyWrites (codes "H;${x;s/\\n/,/g;p}") (codes "a\nb\n") (codes ",a,b\n")
unfolding verdict cutting walked item_at past function_at addresses_at address_at second_at text_from name_from split_lines course next_move selects match_at substitute_at substituted delimiter_at outcome rest_of token_at front_interval set_of tree_at tree_within list_at list_end leftmost_longest found_from longest greatest spans any copies reported_groups groups_after greatest_cut first_copy last_start occurrences_from
hold_space_by_the_end = is_script (ends_after 200 refl refl)

file_without_input : Writes (codes "w out") (codes "") (codes "")
unfolding verdict cutting walked item_at past function_at addresses_at address_at second_at text_from name_from split_lines course next_move selects
file_without_input = is_script (ends_after 200 refl refl)
