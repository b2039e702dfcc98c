-- Examples of two scripts one after the other, computed by the definitions: what the text of both means, and pairs for which the law
-- isn't so, each with what the second writes over what the first wrote, and what the script of both writes.
use Rattle.std.proofs.Common.{◌≡◌, ℕ, zero, suc, [], ◌∷◌, true, false, Some, refl}
use Rattle.std.specs.Prelude.{codes, slice_get}
use Rattle.sedre.specs.Brackets.{delimiter_at, list_at, list_end}
use Rattle.sedre.specs.Tokens.{front_interval, token_at}
use Rattle.sedre.specs.Sets.{only, set_of}
use Rattle.sedre.specs.Tree.{Tree, byte_of, tree_at, tree_within}
use Rattle.sedre.specs.declared.types.Kind.TheVariants.{Basic}
use Rattle.sedscript.specs.declared.types.Action.TheVariants as action
use Rattle.sedscript.specs.declared.types.Simple.TheVariants as simple
use Rattle.sedscript.specs.declared.types.FileUse.TheVariants.{Write}
use Rattle.sedscript.specs.declared.types.Address.TheVariants.{Match}
use Rattle.sedscript.specs.declared.types.Reason.TheVariants.{RepeatedLabel}
use Rattle.sedscript.specs.declared.substitution.Piece.TheVariants.{Literal}
use Rattle.sedscript.specs.Items.{address_at, match_at, second_at, addresses_at, function_at, item_at, substitute_at}
use Rattle.sedscript.specs.Letters.{substituted, transliterate_at}
use Rattle.sedscript.specs.Bytes.{past}
use Rattle.sedscript.specs.Arguments.{name_from, text_from}
use Rattle.sedscript.specs.Script.{Means}
use Rattle.sedscript.specs.FirstFault.{Faulty}
use Rattle.sedscript.specs.Program.{Program}
use Rattle.sedscript.specs.Strings.{table_of}
use Rattle.sedmatch.specs.Matching.{any, groups_after, copies, greatest_cut, first_copy, leftmost_longest, found_from, greatest, last_start, longest, reported_groups, spans}
use Rattle.sedspace.specs.Lines.{is_newline, split_lines}
use Rattle.sedengine.specs.Move.{in_table, next_move}
use Rattle.sedengine.specs.Select.{selects}
use Rattle.sedengine.specs.Substitute.{occurrences_from}
use Rattle.examples.proofs.ComputedReading.{outcome, rest_of, written}
use Rattle.examples.proofs.ComputedRun.{course, ends_after, Writes}
use Rattle.examples.proofs.ComputedScript.{verdict, cutting, walked, has_fault, is_script}
use Rattle.examples.proofs.ScriptWords.{fault_at, always, at, substitution}
use Rattle.scripts.specs.InTurn.{BreaksNoLine, EachOnlyEdits, in_turn}
use Rattle.scripts.specs.OneText.{EditInTurn}
use Rattle.scripts.proofs.Colons.{label_law}
use Rattle.scripts.proofs.Meanings.{of_commands, meant}

-- ---- what the text of both means

-- the expression of one byte
abbrev byte : ℕ → Tree
byte b = byte_of (only b)

abbrev first : Program
first = record (of_commands (at (Match (Some 0)) (action.Plain simple.Delete) ∷ always (action.Substitute 0) ∷ []) []) {
  expressions = written (byte 120) 0 ∷ written (byte 97) 0 ∷ [];
  substitutions = substitution (Some 1) (Literal 98 ∷ []) ∷ [];
}

abbrev second : Program
second = record (of_commands (always (action.Substitute 0) ∷ always (action.Transliterate 0) ∷ []) []) {
  expressions = written (byte 99) 0 ∷ [];
  substitutions = substitution (Some 0) (Literal 100 ∷ []) ∷ [];
  tables = table_of (101 ∷ []) (102 ∷ []) ∷ [];
}

first_means : Means (codes "/x/d\ns/a/b/") Basic 65536 first
unfolding verdict cutting walked item_at past function_at addresses_at address_at second_at text_from name_from match_at substitute_at substituted delimiter_at outcome rest_of token_at front_interval set_of
first_means = meant _ _ refl

second_means : Means (codes "s/c/d/\ny/e/f/") Basic 65536 second
unfolding verdict cutting walked item_at past function_at addresses_at address_at second_at text_from name_from match_at substitute_at substituted transliterate_at delimiter_at outcome rest_of token_at front_interval set_of
second_means = meant _ _ refl

both_means : Means (codes "/x/d\ns/a/b/\ns/c/d/\ny/e/f/") Basic 65536 (in_turn first second)
unfolding verdict cutting walked item_at past function_at addresses_at address_at second_at text_from name_from match_at substitute_at substituted transliterate_at delimiter_at outcome rest_of token_at front_interval set_of
both_means = meant _ _ refl

-- the law is about this pair
first_edits : EachOnlyEdits true first
first_edits = record { each = refl; loud = refl }

second_edits : EachOnlyEdits false second
second_edits = record { each = refl; loud = refl }

no_table : (k b : ℕ) → is_newline b ≡ false → is_newline (in_table (slice_get first.tables k) b) ≡ false
no_table zero b h = h
no_table (suc k) b h = h

first_breaks : BreaksNoLine first
first_breaks = record { replacements = refl; tables = no_table }

pair : EditInTurn (codes "/x/d\ns/a/b/") (codes "s/c/d/\ny/e/f/")
pair = record {
  p = first;
  q = second;
  first = first_means;
  second = second_means;
  first_edits = first_edits;
  second_edits = second_edits;
  breaks_none = first_breaks;
  labels = λ name here there. let bad = label_law Basic 65536 (codes "/x/d\ns/a/b/") name here in absurd cc;
}

-- ---- a number, and `$`, in the second script

first_number : Writes (codes "1d") (codes "a\nb\n") (codes "b\n")
unfolding verdict cutting walked item_at past function_at addresses_at address_at second_at text_from name_from split_lines course next_move selects
first_number = is_script (ends_after 60 refl refl)

second_number : Writes (codes "1d") (codes "b\n") (codes "")
unfolding verdict cutting walked item_at past function_at addresses_at address_at second_at text_from name_from split_lines course next_move selects
second_number = is_script (ends_after 60 refl refl)

both_numbers : Writes (codes "1d\n1d") (codes "a\nb\n") (codes "b\n")
unfolding verdict cutting walked item_at past function_at addresses_at address_at second_at text_from name_from split_lines course next_move selects
both_numbers = is_script (ends_after 60 refl refl)

second_last : Writes (codes "$d") (codes "a\n") (codes "")
unfolding verdict cutting walked item_at past function_at addresses_at address_at second_at text_from name_from split_lines course next_move selects
second_last = is_script (ends_after 60 refl refl)

both_last : Writes (codes "$d\n$d") (codes "a\nb\n") (codes "a\n")
unfolding verdict cutting walked item_at past function_at addresses_at address_at second_at text_from name_from split_lines course next_move selects
both_last = is_script (ends_after 60 refl refl)

-- ---- an empty expression in the second script, and a newline that the first one makes

both_empty : Writes (codes "s/b/c/\n//d") (codes "a\nb\n") (codes "a\nc\n")
unfolding verdict cutting walked item_at past function_at addresses_at address_at second_at text_from name_from split_lines course next_move selects match_at substitute_at substituted delimiter_at outcome rest_of token_at front_interval set_of tree_at tree_within list_at list_end leftmost_longest found_from longest greatest spans any copies reported_groups groups_after greatest_cut first_copy last_start occurrences_from
both_empty = is_script (ends_after 100 refl refl)

second_broken : Writes (codes "s/^y/z/") (codes "x\ny\nb\n") (codes "x\nz\nb\n")
unfolding verdict cutting walked item_at past function_at addresses_at address_at second_at text_from name_from split_lines course next_move selects match_at substitute_at substituted delimiter_at outcome rest_of token_at front_interval set_of tree_at tree_within list_at list_end leftmost_longest found_from longest greatest spans any copies reported_groups groups_after greatest_cut first_copy last_start occurrences_from
second_broken = is_script (ends_after 100 refl refl)

both_broken : Writes (codes "s/a/x\\ny/\ns/^y/z/") (codes "a\nb\n") (codes "x\ny\nb\n")
unfolding verdict cutting walked item_at past function_at addresses_at address_at second_at text_from name_from split_lines course next_move selects match_at substitute_at substituted delimiter_at outcome rest_of token_at front_interval set_of tree_at tree_within list_at list_end leftmost_longest found_from longest greatest spans any copies reported_groups groups_after greatest_cut first_copy last_start occurrences_from
both_broken = is_script (ends_after 100 refl refl)

-- ---- a name that is a label in both, and `#n`, which is a comment where it comes in a later line

both_labels : Faulty (codes ":x\n:x") Basic 65536 (fault_at 3 RepeatedLabel)
unfolding verdict cutting walked item_at past function_at addresses_at address_at second_at text_from name_from
both_labels = has_fault refl

second_quiet : Writes (codes "#n") (codes "b\nb\n") (codes "")
unfolding verdict cutting walked item_at past function_at addresses_at address_at second_at text_from name_from split_lines course next_move selects
second_quiet = is_script (ends_after 60 refl refl)

both_quiet : Writes (codes "y/a/b/\n#n") (codes "a\nb\n") (codes "b\nb\n")
unfolding verdict cutting walked item_at past function_at addresses_at address_at second_at text_from name_from split_lines course next_move selects transliterate_at table_of
both_quiet = is_script (ends_after 60 refl refl)

-- ---- a file that both write: it has one number

both_files : Means (codes "w f\nw f") Basic 65536 (of_commands (always (action.File Write 1) ∷ always (action.File Write 1) ∷ []) (codes "f" ∷ []))
unfolding verdict cutting walked item_at past function_at addresses_at address_at second_at text_from name_from
both_files = meant _ _ refl

-- ---- a branch to the end, and what the first one writes by itself

both_branch : Writes (codes "b\nd") (codes "a\nb\n") (codes "a\nb\n")
unfolding verdict cutting walked item_at past function_at addresses_at address_at second_at text_from name_from split_lines course next_move selects
both_branch = is_script (ends_after 60 refl refl)

both_print : Writes (codes "p\nd") (codes "a\nb\n") (codes "a\nb\n")
unfolding verdict cutting walked item_at past function_at addresses_at address_at second_at text_from name_from split_lines course next_move selects
both_print = is_script (ends_after 60 refl refl)
