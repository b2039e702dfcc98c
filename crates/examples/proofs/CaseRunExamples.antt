-- Examples of whole runs, computed by the definitions, from the bytes of a script and of its input: the flag `I` (this
-- project's own).
use Rattle.std.proofs.Common.{refl}
use Rattle.std.specs.Prelude.{codes}
use Rattle.examples.proofs.ComputedReading.{outcome, rest_of}
use Rattle.sedre.specs.Tree.{tree_at, tree_within}
use Rattle.sedre.specs.Brackets.{list_at, list_end, delimiter_at}
use Rattle.sedre.specs.Tokens.{front_interval, token_at}
use Rattle.sedre.specs.Sets.{set_of}
use Rattle.sedmatch.specs.Matching.{any, greatest, copies, spans, longest, found_from, leftmost_longest, greatest_cut, first_copy, last_start, groups_after, reported_groups}
use Rattle.examples.proofs.ComputedScript.{verdict, cutting, walked, is_script}
use Rattle.sedscript.specs.Items.{match_at, address_at, second_at, addresses_at, substitute_at, function_at, item_at}
use Rattle.sedscript.specs.Letters.{substituted}
use Rattle.sedscript.specs.Bytes.{past}
use Rattle.sedscript.specs.Arguments.{name_from, text_from}
use Rattle.sedspace.specs.Lines.{split_lines}
use Rattle.sedengine.specs.Move.{next_move}
use Rattle.sedengine.specs.Select.{selects}
use Rattle.sedengine.specs.Substitute.{occurrences_from}
use Rattle.examples.proofs.ComputedRun.{course, ends_after, Writes, QuietlyWrites}

folded_substitution : Writes (codes "s/abc/x/I") (codes "aBC\n") (codes "x\n")
unfolding verdict cutting walked item_at past function_at addresses_at address_at second_at text_from name_from split_lines course next_move selects match_at substitute_at substituted delimiter_at outcome rest_of token_at front_interval set_of tree_at tree_within list_at list_end leftmost_longest found_from longest greatest spans any copies reported_groups groups_after greatest_cut first_copy last_start occurrences_from
folded_substitution = is_script (ends_after 200 refl refl)

folded_address : Writes (codes "/A/Id") (codes "a\nb\n") (codes "b\n")
unfolding verdict cutting walked item_at past function_at addresses_at address_at second_at text_from name_from split_lines course next_move selects match_at substitute_at substituted delimiter_at outcome rest_of token_at front_interval set_of tree_at tree_within list_at list_end leftmost_longest found_from longest greatest spans any copies
folded_address = is_script (ends_after 200 refl refl)

-- The list is closed under the change of case before its `^` is applied.
folded_complement : Writes (codes "s/[^a]/x/Ig") (codes "aAb\n") (codes "aAx\n")
unfolding verdict cutting walked item_at past function_at addresses_at address_at second_at text_from name_from split_lines course next_move selects match_at substitute_at substituted delimiter_at outcome rest_of token_at front_interval set_of tree_at tree_within list_at list_end leftmost_longest found_from longest greatest spans any copies reported_groups groups_after greatest_cut first_copy last_start occurrences_from
folded_complement = is_script (ends_after 200 refl refl)

folded_class : Writes (codes "s/[[:upper:]]/x/gI") (codes "aB1\n") (codes "xx1\n")
unfolding verdict cutting walked item_at past function_at addresses_at address_at second_at text_from name_from split_lines course next_move selects match_at substitute_at substituted delimiter_at outcome rest_of token_at front_interval set_of tree_at tree_within list_at list_end leftmost_longest found_from longest greatest spans any copies reported_groups groups_after greatest_cut first_copy last_start occurrences_from
folded_class = is_script (ends_after 200 refl refl)

folded_range : Writes (codes "s/[Z-a]/-/gI") (codes "zA_b\n") (codes "---b\n")
unfolding verdict cutting walked item_at past function_at addresses_at address_at second_at text_from name_from split_lines course next_move selects match_at substitute_at substituted delimiter_at outcome rest_of token_at front_interval set_of tree_at tree_within list_at list_end leftmost_longest found_from longest greatest spans any copies reported_groups groups_after greatest_cut first_copy last_start occurrences_from
folded_range = is_script (ends_after 200 refl refl)

-- With -n.
range_of_folded_expressions : QuietlyWrites (codes "/a/I,/b/Ip") (codes "A\nx\nB\ny\n") (codes "A\nx\nB\n")
unfolding verdict cutting walked item_at past function_at addresses_at address_at second_at text_from name_from split_lines course next_move selects match_at substitute_at substituted delimiter_at outcome rest_of token_at front_interval set_of tree_at tree_within list_at list_end leftmost_longest found_from longest greatest spans any copies
range_of_folded_expressions = is_script (ends_after 200 refl refl)

-- An empty expression stands for the last one with that one's own folding.
folded_expression_last_used : Writes (codes "/A/Is//x/") (codes "a\n") (codes "x\n")
unfolding verdict cutting walked item_at past function_at addresses_at address_at second_at text_from name_from split_lines course next_move selects match_at substitute_at substituted delimiter_at outcome rest_of token_at front_interval set_of tree_at tree_within list_at list_end leftmost_longest found_from longest greatest spans any copies reported_groups groups_after greatest_cut first_copy last_start occurrences_from
folded_expression_last_used = is_script (ends_after 200 refl refl)
