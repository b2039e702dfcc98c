-- Examples of whole runs, computed by the definitions, from the bytes of a script and of its input: the functions `s`, `t`
-- and `y` (XCU sed, "Editing Commands in sed").
use Rattle.std.proofs.Common.{[], ◌∷◌, refl}
use Rattle.std.specs.Prelude.{codes}
use Rattle.examples.proofs.ComputedReading.{outcome, rest_of}
use Rattle.sedre.specs.Tree.{tree_at, tree_within}
use Rattle.sedre.specs.Brackets.{list_at, list_end, delimiter_at}
use Rattle.sedre.specs.Tokens.{front_interval, token_at}
use Rattle.sedre.specs.Sets.{set_of}
use Rattle.sedmatch.specs.Matching.{any, greatest, copies, spans, longest, found_from, leftmost_longest, greatest_cut, first_copy, last_start, groups_after, reported_groups}
use Rattle.examples.proofs.ComputedScript.{verdict, cutting, walked, is_script}
use Rattle.sedscript.specs.Items.{match_at, address_at, second_at, addresses_at, substitute_at, function_at, item_at}
use Rattle.sedscript.specs.Letters.{substituted, transliterate_at}
use Rattle.sedscript.specs.Bytes.{past}
use Rattle.sedscript.specs.Arguments.{name_from, text_from}
use Rattle.sedscript.specs.Strings.{table_of}
use Rattle.sedspace.specs.Lines.{split_lines}
use Rattle.sedengine.specs.Move.{next_move, to_sink}
use Rattle.sedfiles.specs.Files.{concatenated}
use Rattle.sedengine.specs.Select.{selects}
use Rattle.sedengine.specs.Substitute.{occurrences_from}
use Rattle.examples.proofs.ComputedRun.{course, ends_after, Writes, QuietlyWrites, Edits, plain, quiet, no_files}
use Rattle.sedre.specs.declared.types.Kind.TheVariants.{Extended}

second_occurrence : Writes (codes "s/b/[&]/2") (codes "abab\n") (codes "aba[b]\n")
unfolding verdict cutting walked item_at past function_at addresses_at address_at second_at text_from name_from split_lines course next_move selects match_at substitute_at substituted delimiter_at outcome rest_of token_at front_interval set_of tree_at tree_within list_at list_end leftmost_longest found_from longest greatest spans any copies reported_groups groups_after greatest_cut first_copy last_start occurrences_from
second_occurrence = is_script (ends_after 200 refl refl)

-- With -n, and the flag `p`.
escaped_delimiter : QuietlyWrites (codes "s/x/\\//p") (codes "x\n") (codes "/\n")
unfolding verdict cutting walked item_at past function_at addresses_at address_at second_at text_from name_from split_lines course next_move selects match_at substitute_at substituted delimiter_at outcome rest_of token_at front_interval set_of tree_at tree_within list_at list_end leftmost_longest found_from longest greatest spans any copies reported_groups groups_after greatest_cut first_copy last_start occurrences_from
escaped_delimiter = is_script (ends_after 200 refl refl)

-- `t` branches on the first line and not on the second.
test_after_a_substitution : Writes (codes "s/a/b/;ta;s/$/!/;:a") (codes "a\nc\n") (codes "b\nc!\n")
unfolding verdict cutting walked item_at past function_at addresses_at address_at second_at text_from name_from split_lines course next_move selects match_at substitute_at substituted delimiter_at outcome rest_of token_at front_interval set_of tree_at tree_within list_at list_end leftmost_longest found_from longest greatest spans any copies reported_groups groups_after greatest_cut first_copy last_start occurrences_from
test_after_a_substitution = is_script (ends_after 200 refl refl)

all_of_the_expression_last_used : Writes (codes "/a/s//[&]/g") (codes "aba\n") (codes "[a]b[a]\n")
unfolding verdict cutting walked item_at past function_at addresses_at address_at second_at text_from name_from split_lines course next_move selects match_at substitute_at substituted delimiter_at outcome rest_of token_at front_interval set_of tree_at tree_within list_at list_end leftmost_longest found_from longest greatest spans any copies reported_groups groups_after greatest_cut first_copy last_start occurrences_from
all_of_the_expression_last_used = is_script (ends_after 200 refl refl)

-- In a bracket expression the backslash and the `n` stand for themselves.
newline_in_a_list : Writes (codes "s/[\\n]/x/g") (codes "an\\b\n") (codes "axxb\n")
unfolding verdict cutting walked item_at past function_at addresses_at address_at second_at text_from name_from split_lines course next_move selects match_at substitute_at substituted delimiter_at outcome rest_of token_at front_interval set_of tree_at tree_within list_at list_end leftmost_longest found_from longest greatest spans any copies reported_groups groups_after greatest_cut first_copy last_start occurrences_from
newline_in_a_list = is_script (ends_after 200 refl refl)

-- A group that took no part in the match gives nothing.
group_without_a_span : Writes (codes "s/\\(a\\)*b/<\\1>/") (codes "b\n") (codes "<>\n")
unfolding verdict cutting walked item_at past function_at addresses_at address_at second_at text_from name_from split_lines course next_move selects match_at substitute_at substituted delimiter_at outcome rest_of token_at front_interval set_of tree_at tree_within list_at list_end leftmost_longest found_from longest greatest spans any copies reported_groups groups_after greatest_cut first_copy last_start occurrences_from
group_without_a_span = is_script (ends_after 200 refl refl)

transliterate : Writes (codes "y/a\\/\\n/x:y/") (codes "a/b\n") (codes "x:b\n")
unfolding verdict cutting walked item_at past function_at addresses_at address_at second_at text_from name_from split_lines course next_move selects transliterate_at table_of
transliterate = is_script (ends_after 200 refl refl)

-- The delimiter with a backslash before it stands for the byte itself.
bar_as_a_delimiter : Writes (codes "s|a\\|b|x|") (codes "a|b\n") (codes "x\n")
unfolding verdict cutting walked item_at past function_at addresses_at address_at second_at text_from name_from split_lines course next_move selects match_at substitute_at substituted delimiter_at outcome rest_of token_at front_interval set_of tree_at tree_within list_at list_end leftmost_longest found_from longest greatest spans any copies reported_groups groups_after greatest_cut first_copy last_start occurrences_from
bar_as_a_delimiter = is_script (ends_after 200 refl refl)

empty_matches : Writes (codes "s/x*/-/g") (codes "abc\n") (codes "-a-b-c-\n")
unfolding verdict cutting walked item_at past function_at addresses_at address_at second_at text_from name_from split_lines course next_move selects match_at substitute_at substituted delimiter_at outcome rest_of token_at front_interval set_of tree_at tree_within list_at list_end leftmost_longest found_from longest greatest spans any copies reported_groups groups_after greatest_cut first_copy last_start occurrences_from
empty_matches = is_script (ends_after 200 refl refl)

no_empty_match_after_an_occurrence : Writes (codes "s/a*/x/g") (codes "baaac\n") (codes "xbxcx\n")
unfolding verdict cutting walked item_at past function_at addresses_at address_at second_at text_from name_from split_lines course next_move selects match_at substitute_at substituted delimiter_at outcome rest_of token_at front_interval set_of tree_at tree_within list_at list_end leftmost_longest found_from longest greatest spans any copies reported_groups groups_after greatest_cut first_copy last_start occurrences_from
no_empty_match_after_an_occurrence = is_script (ends_after 200 refl refl)

-- Extended.
longest_parts_first : Edits Extended plain no_files (codes "s/(a|ab)(c|bcd)(d*)/[\\1][\\2][\\3]/") (codes "abcd\n") (to_sink 0 (codes "[ab][c][d]\n"))
unfolding verdict cutting walked item_at past function_at addresses_at address_at second_at text_from name_from split_lines course next_move selects match_at substitute_at substituted delimiter_at outcome rest_of token_at front_interval set_of tree_at tree_within list_at list_end leftmost_longest found_from longest greatest spans any copies reported_groups groups_after greatest_cut first_copy last_start occurrences_from
longest_parts_first = is_script (ends_after 200 refl refl)

group_of_an_empty_copy : Writes (codes "s/\\(a*\\)*/<\\1>/") (codes "bc\n") (codes "<>bc\n")
unfolding verdict cutting walked item_at past function_at addresses_at address_at second_at text_from name_from split_lines course next_move selects match_at substitute_at substituted delimiter_at outcome rest_of token_at front_interval set_of tree_at tree_within list_at list_end leftmost_longest found_from longest greatest spans any copies reported_groups groups_after greatest_cut first_copy last_start occurrences_from
group_of_an_empty_copy = is_script (ends_after 200 refl refl)

-- Extended. A copy forgets the groups within the one before.
groups_of_the_last_copy : Edits Extended plain no_files (codes "s/((a)|b)*/[\\1][\\2]/") (codes "ab\n") (to_sink 0 (codes "[b][]\n"))
unfolding verdict cutting walked item_at past function_at addresses_at address_at second_at text_from name_from split_lines course next_move selects match_at substitute_at substituted delimiter_at outcome rest_of token_at front_interval set_of tree_at tree_within list_at list_end leftmost_longest found_from longest greatest spans any copies reported_groups groups_after greatest_cut first_copy last_start occurrences_from
groups_of_the_last_copy = is_script (ends_after 200 refl refl)

-- Extended.
group_repeated : Edits Extended plain no_files (codes "s/(a*)+/<\\1>/") (codes "aa\n") (to_sink 0 (codes "<aa>\n"))
unfolding verdict cutting walked item_at past function_at addresses_at address_at second_at text_from name_from split_lines course next_move selects match_at substitute_at substituted delimiter_at outcome rest_of token_at front_interval set_of tree_at tree_within list_at list_end leftmost_longest found_from longest greatest spans any copies reported_groups groups_after greatest_cut first_copy last_start occurrences_from
group_repeated = is_script (ends_after 200 refl refl)

second_occurrence_and_all_later : Writes (codes "s/a/x/2g") (codes "aaaa\n") (codes "axxx\n")
unfolding verdict cutting walked item_at past function_at addresses_at address_at second_at text_from name_from split_lines course next_move selects match_at substitute_at substituted delimiter_at outcome rest_of token_at front_interval set_of tree_at tree_within list_at list_end leftmost_longest found_from longest greatest spans any copies reported_groups groups_after greatest_cut first_copy last_start occurrences_from
second_occurrence_and_all_later = is_script (ends_after 200 refl refl)

anchor_with_all : Writes (codes "s/^a/x/g") (codes "aaa\n") (codes "xaa\n")
unfolding verdict cutting walked item_at past function_at addresses_at address_at second_at text_from name_from split_lines course next_move selects match_at substitute_at substituted delimiter_at outcome rest_of token_at front_interval set_of tree_at tree_within list_at list_end leftmost_longest found_from longest greatest spans any copies reported_groups groups_after greatest_cut first_copy last_start occurrences_from
anchor_with_all = is_script (ends_after 200 refl refl)

delimiter_in_a_list : Writes (codes "s/[/]/x/") (codes "a/b\n") (codes "axb\n")
unfolding verdict cutting walked item_at past function_at addresses_at address_at second_at text_from name_from split_lines course next_move selects match_at substitute_at substituted delimiter_at outcome rest_of token_at front_interval set_of tree_at tree_within list_at list_end leftmost_longest found_from longest greatest spans any copies reported_groups groups_after greatest_cut first_copy last_start occurrences_from
delimiter_in_a_list = is_script (ends_after 200 refl refl)

bracket_and_hyphen_in_a_list : Writes (codes "s/[]-]/x/g") (codes "a]b-c\n") (codes "axbxc\n")
unfolding verdict cutting walked item_at past function_at addresses_at address_at second_at text_from name_from split_lines course next_move selects match_at substitute_at substituted delimiter_at outcome rest_of token_at front_interval set_of tree_at tree_within list_at list_end leftmost_longest found_from longest greatest spans any copies reported_groups groups_after greatest_cut first_copy last_start occurrences_from
bracket_and_hyphen_in_a_list = is_script (ends_after 200 refl refl)

star_after_an_anchor : Writes (codes "s/^*/x/") (codes "*a\n") (codes "xa\n")
unfolding verdict cutting walked item_at past function_at addresses_at address_at second_at text_from name_from split_lines course next_move selects match_at substitute_at substituted delimiter_at outcome rest_of token_at front_interval set_of tree_at tree_within list_at list_end leftmost_longest found_from longest greatest spans any copies reported_groups groups_after greatest_cut first_copy last_start occurrences_from
star_after_an_anchor = is_script (ends_after 200 refl refl)

newline_transliterated : Writes (codes "N;y/\\n/,/") (codes "1\n2\n") (codes "1,2\n")
unfolding verdict cutting walked item_at past function_at addresses_at address_at second_at text_from name_from split_lines course next_move selects transliterate_at table_of
newline_transliterated = is_script (ends_after 200 refl refl)

group_that_the_expression_last_used_lacks : Writes (codes "/a/s//\\1/") (codes "aba\n") (codes "ba\n")
unfolding verdict cutting walked item_at past function_at addresses_at address_at second_at text_from name_from split_lines course next_move selects match_at substitute_at substituted delimiter_at outcome rest_of token_at front_interval set_of tree_at tree_within list_at list_end leftmost_longest found_from longest greatest spans any copies reported_groups groups_after greatest_cut first_copy last_start occurrences_from
group_that_the_expression_last_used_lacks = is_script (ends_after 200 refl refl)

-- The input of two files, `a` without a newline and `b`.
end_of_the_last_line : Writes (codes "$s/$/!/") (concatenated (codes "a" ∷ codes "b" ∷ [])) (codes "a\nb!\n")
unfolding verdict cutting walked item_at past function_at addresses_at address_at second_at text_from name_from split_lines course next_move selects match_at substitute_at substituted delimiter_at outcome rest_of token_at front_interval set_of tree_at tree_within list_at list_end leftmost_longest found_from longest greatest spans any copies reported_groups groups_after greatest_cut first_copy last_start occurrences_from
end_of_the_last_line = is_script (ends_after 200 refl refl)

-- Extended.
commas_by_a_loop : Edits Extended plain no_files (codes ":a;s/^([0-9]+)([0-9]{3})/\\1,\\2/;ta") (codes "1234567\n") (to_sink 0 (codes "1,234,567\n"))
unfolding verdict cutting walked item_at past function_at addresses_at address_at second_at text_from name_from split_lines course next_move selects match_at substitute_at substituted delimiter_at outcome rest_of token_at front_interval set_of tree_at tree_within list_at list_end leftmost_longest found_from longest greatest spans any copies reported_groups groups_after greatest_cut first_copy last_start occurrences_from
commas_by_a_loop = is_script (ends_after 200 refl refl)

-- Extended. The empty expression is the one of the address, which has no match in the second line.
nested_stars_last_used : Edits Extended plain no_files (codes "/((a*)*)*b/d;s//x/") (codes "aab\naa\n") (to_sink 0 (codes "aa\n"))
unfolding verdict cutting walked item_at past function_at addresses_at address_at second_at text_from name_from split_lines course next_move selects match_at substitute_at substituted delimiter_at outcome rest_of token_at front_interval set_of tree_at tree_within list_at list_end leftmost_longest found_from longest greatest spans any copies reported_groups groups_after greatest_cut first_copy last_start occurrences_from
nested_stars_last_used = is_script (ends_after 200 refl refl)

-- Extended, and with -n.
quiet_and_extended : Edits Extended quiet no_files (codes "s/(a)+/x/p") (codes "aa\n") (to_sink 0 (codes "x\n"))
unfolding verdict cutting walked item_at past function_at addresses_at address_at second_at text_from name_from split_lines course next_move selects match_at substitute_at substituted delimiter_at outcome rest_of token_at front_interval set_of tree_at tree_within list_at list_end leftmost_longest found_from longest greatest spans any copies reported_groups groups_after greatest_cut first_copy last_start occurrences_from
quiet_and_extended = is_script (ends_after 200 refl refl)
