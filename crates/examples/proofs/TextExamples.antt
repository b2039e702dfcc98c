-- Examples of the texts, files, substitutions and tables of scripts (XCU sed, "Editing Commands in sed"), computed by the
-- definitions.
use Rattle.std.proofs.Common.{[], ◌∷◌, true, Some, None, refl}
use Rattle.std.specs.Prelude.{codes, ◌≡◌}
use Rattle.sedre.specs.declared.types.Kind.TheVariants.{Basic}
use Rattle.sedre.specs.Tree.{byte_of, sequence}
use Rattle.sedre.specs.Sets.{folded_set, only}
use Rattle.sedscript.specs.declared.types.Action.TheVariants as action
use Rattle.sedscript.specs.declared.types.Simple.TheVariants as simple
use Rattle.sedscript.specs.declared.types.FileUse.TheVariants.{Read, Write}
use Rattle.sedscript.specs.declared.types.TextUse.TheVariants.{Append, Change, Insert}
use Rattle.sedscript.specs.declared.types.Address.TheVariants as address
use Rattle.sedscript.specs.Script.{with_part}
use Rattle.sedscript.specs.declared.substitution.Piece.TheVariants.{Literal as literal, Whole as whole, Group as part}
use Rattle.sedscript.specs.Strings.{table_of}
use Rattle.examples.proofs.ComputedScript.{verdict, cutting, walked, Script, is_script}
use Rattle.examples.proofs.ScriptWords.{always, at, from_to, substitution}
use Rattle.examples.proofs.ExampleWords.{byte}
use Rattle.sedre.specs.Tokens.{token_at, front_interval}
use Rattle.sedre.specs.Brackets.{list_at, list_end, delimiter_at}
use Rattle.examples.proofs.ComputedReading.{outcome, rest_of, written as written_out}
use Rattle.sedscript.specs.Bytes.{past}
use Rattle.sedscript.specs.Items.{match_at, address_at, second_at, addresses_at, substitute_at, function_at, item_at}
use Rattle.sedscript.specs.Letters.{substituted, transliterate_at}
use Rattle.sedscript.specs.Arguments.{text_from, name_from}

-- Texts of `a`, `i` and `c`; the one-line form is this project's own.

text_and_quit : Script (codes "1a X\n1q") Basic (λ s. s.commands ≡ at (address.Line 1) (action.Text Append 0) ∷ at (address.Line 1) (action.Plain simple.Quit) ∷ [])
unfolding verdict cutting walked item_at past function_at addresses_at address_at text_from
text_and_quit = is_script refl

one_line_text : Script (codes "1a X\n1q") Basic (λ s. s.texts ≡ codes "X" ∷ [])
unfolding verdict cutting walked item_at past function_at addresses_at address_at text_from
one_line_text = is_script refl

text_at_once : Script (codes "aX") Basic (λ s. s.texts ≡ codes "X" ∷ [])
unfolding verdict cutting walked item_at past function_at addresses_at address_at text_from
text_at_once = is_script refl

changed_range : Script (codes "2,3c\\\nT") Basic (λ s. s.commands ≡ from_to (address.Line 2) (address.Line 3) (action.Text Change 0) ∷ [])
unfolding verdict cutting walked item_at past function_at addresses_at address_at second_at match_at substitute_at substituted delimiter_at outcome rest_of token_at text_from
changed_range = is_script refl

text_of_a_changed_range : Script (codes "2,3c\\\nT") Basic (λ s. s.texts ≡ codes "T" ∷ [])
unfolding verdict cutting walked item_at past function_at addresses_at address_at second_at match_at substitute_at substituted delimiter_at outcome rest_of token_at text_from
text_of_a_changed_range = is_script refl

leading_blanks_of_a_line_stay : Script (codes "i\\\n  T\\\nU") Basic (λ s. s.texts ≡ codes "  T\nU" ∷ [])
unfolding verdict cutting walked item_at past function_at addresses_at address_at match_at substitute_at substituted delimiter_at outcome rest_of token_at text_from
leading_blanks_of_a_line_stay = is_script refl

leading_blanks_of_one_line_go : Script (codes "a  T") Basic (λ s. s.texts ≡ codes "T" ∷ [])
unfolding verdict cutting walked item_at past function_at addresses_at address_at text_from
leading_blanks_of_one_line_go = is_script refl

empty_text : Script (codes "a\\\n\np") Basic (λ s. s.texts ≡ [] ∷ [])
unfolding verdict cutting walked item_at past function_at addresses_at address_at match_at substitute_at substituted delimiter_at outcome rest_of token_at text_from
empty_text = is_script refl

backslashes_of_a_text_go : Script (codes "a x\\y\\\\z") Basic (λ s. s.texts ≡ codes "xy\\z" ∷ [])
unfolding verdict cutting walked item_at past function_at addresses_at address_at match_at substitute_at substituted delimiter_at outcome rest_of token_at transliterate_at text_from
backslashes_of_a_text_go = is_script refl

backslash_keeps_a_blank : Script (codes "a\\ ") Basic (λ s. s.texts ≡ codes " " ∷ [])
unfolding verdict cutting walked item_at past function_at addresses_at address_at match_at substitute_at substituted delimiter_at outcome rest_of token_at text_from
backslash_keeps_a_blank = is_script refl

backslash_before_a_text : Script (codes "a\\text") Basic (λ s. s.texts ≡ codes "text" ∷ [])
unfolding verdict cutting walked item_at past function_at addresses_at address_at match_at substitute_at substituted delimiter_at outcome rest_of token_at text_from
backslash_before_a_text = is_script refl

text_takes_separators : Script (codes "a p;p}") Basic (λ s. s.texts ≡ codes "p;p}" ∷ [])
unfolding verdict cutting walked item_at past function_at addresses_at address_at text_from
text_takes_separators = is_script refl

two_texts : Script (codes "a X\na Y") Basic (λ s. s.texts ≡ codes "X" ∷ codes "Y" ∷ [])
unfolding verdict cutting walked item_at past function_at addresses_at address_at text_from
two_texts = is_script refl

numbers_of_texts : Script (codes "a X\ni Y\nc Z") Basic (λ s. s.commands ≡ always (action.Text Append 0) ∷ always (action.Text Insert 1) ∷ always (action.Text Change 2) ∷ [])
unfolding verdict cutting walked item_at past function_at addresses_at address_at text_from
numbers_of_texts = is_script refl

text_of_a_range : Script (codes "1,2a X") Basic (λ s. s.commands ≡ from_to (address.Line 1) (address.Line 2) (action.Text Append 0) ∷ [])
unfolding verdict cutting walked item_at past function_at addresses_at address_at second_at text_from
text_of_a_range = is_script refl

text_before_a_range : Script (codes "1,2i X") Basic (λ s. s.commands ≡ from_to (address.Line 1) (address.Line 2) (action.Text Insert 0) ∷ [])
unfolding verdict cutting walked item_at past function_at addresses_at address_at second_at text_from
text_before_a_range = is_script refl

-- Files that are read and written; equal names are one file, and /dev/stdout is the standard output where it is written (both
-- this project's own).

written_file : Script (codes "p;w out") Basic (λ s. s.commands ≡ always (action.Plain simple.Print) ∷ always (action.File Write 1) ∷ [])
unfolding verdict cutting walked item_at past function_at addresses_at address_at name_from
written_file = is_script refl

name_of_a_written_file : Script (codes "p;w out") Basic (λ s. s.wfiles ≡ codes "out" ∷ [])
unfolding verdict cutting walked item_at past function_at addresses_at address_at name_from
name_of_a_written_file = is_script refl

one_file_for_equal_names : Script (codes "w out\nw out") Basic (λ s. s.wfiles ≡ codes "out" ∷ [])
unfolding verdict cutting walked item_at past function_at addresses_at address_at name_from
one_file_for_equal_names = is_script refl

one_sink_for_equal_names : Script (codes "w a\nw b\nw a") Basic (λ s. s.commands ≡ always (action.File Write 1) ∷ always (action.File Write 2) ∷ always (action.File Write 1) ∷ [])
unfolding verdict cutting walked item_at past function_at addresses_at address_at text_from name_from
one_sink_for_equal_names = is_script refl

standard_output : Script (codes "w /dev/stdout") Basic (λ s. s.commands ≡ always (action.File Write 0) ∷ [])
unfolding verdict cutting walked item_at past function_at addresses_at address_at match_at substitute_at substituted delimiter_at outcome rest_of token_at name_from
standard_output = is_script refl

no_file_for_the_standard_output : Script (codes "w /dev/stdout") Basic (λ s. s.wfiles ≡ [])
unfolding verdict cutting walked item_at past function_at addresses_at address_at match_at substitute_at substituted delimiter_at outcome rest_of token_at name_from
no_file_for_the_standard_output = is_script refl

file_of_a_range : Script (codes "1,2r f") Basic (λ s. s.commands ≡ from_to (address.Line 1) (address.Line 2) (action.File Read 0) ∷ [])
unfolding verdict cutting walked item_at past function_at addresses_at address_at second_at name_from
file_of_a_range = is_script refl

name_without_a_blank : Script (codes "rf") Basic (λ s. s.rfiles ≡ codes "f" ∷ [])
unfolding verdict cutting walked item_at past function_at addresses_at address_at name_from
name_without_a_blank = is_script refl

name_keeps_its_last_blanks : Script (codes "w f  ") Basic (λ s. s.wfiles ≡ codes "f  " ∷ [])
unfolding verdict cutting walked item_at past function_at addresses_at address_at name_from
name_keeps_its_last_blanks = is_script refl

standard_output_is_read_as_a_file : Script (codes "r /dev/stdout") Basic (λ s. s.rfiles ≡ codes "/dev/stdout" ∷ [])
unfolding verdict cutting walked item_at past function_at addresses_at address_at name_from
standard_output_is_read_as_a_file = is_script refl

read_file : Script (codes "1r f") Basic (λ s. s.commands ≡ at (address.Line 1) (action.File Read 0) ∷ [])
unfolding verdict cutting walked item_at past function_at addresses_at address_at name_from
read_file = is_script refl

name_of_a_read_file : Script (codes "1r f") Basic (λ s. s.rfiles ≡ codes "f" ∷ [])
unfolding verdict cutting walked item_at past function_at addresses_at address_at name_from
name_of_a_read_file = is_script refl

name_with_separators : Script (codes "r f;p }") Basic (λ s. s.rfiles ≡ codes "f;p }" ∷ [])
unfolding verdict cutting walked item_at past function_at addresses_at address_at name_from
name_with_separators = is_script refl

file_of_a_flag : Script (codes "s/a/b/pw out") Basic (λ s. s.wfiles ≡ codes "out" ∷ [])
unfolding verdict cutting walked item_at past function_at addresses_at address_at match_at substitute_at substituted delimiter_at outcome rest_of token_at text_from name_from
file_of_a_flag = is_script refl

-- Substitutions: the expression's number, the pieces of the replacement, and the flags.

substitute : Script (codes "s/a/b/") Basic (λ s. s.commands ≡ always (action.Substitute 0) ∷ [])
unfolding verdict cutting walked item_at past function_at addresses_at address_at match_at substitute_at substituted delimiter_at outcome rest_of token_at text_from
substitute = is_script refl

replacement : Script (codes "s/a/b/") Basic (λ s. s.substitutions ≡ substitution (Some 0) (literal 98 ∷ []) ∷ [])
unfolding verdict cutting walked item_at past function_at addresses_at address_at match_at substitute_at substituted delimiter_at outcome rest_of token_at text_from
replacement = is_script refl

deleted_match : Script (codes "s/a//") Basic (λ s. s.substitutions ≡ substitution (Some 0) [] ∷ [])
unfolding verdict cutting walked item_at past function_at addresses_at address_at match_at substitute_at substituted delimiter_at outcome rest_of token_at text_from
deleted_match = is_script refl

whole_match : Script (codes "s/b/[&]/") Basic (λ s. s.substitutions ≡ substitution (Some 0) (literal 91 ∷ whole ∷ literal 93 ∷ []) ∷ [])
unfolding verdict cutting walked item_at past function_at addresses_at address_at match_at substitute_at substituted delimiter_at outcome rest_of token_at list_at list_end
whole_match = is_script refl

whole_match_by_a_digit : Script (codes "s/b/\\0/") Basic (λ s. s.substitutions ≡ substitution (Some 0) (whole ∷ []) ∷ [])
unfolding verdict cutting walked item_at past function_at addresses_at address_at match_at substitute_at substituted delimiter_at outcome rest_of token_at
whole_match_by_a_digit = is_script refl

escaped_ampersand : Script (codes "s/b/\\&/") Basic (λ s. s.substitutions ≡ substitution (Some 0) (literal 38 ∷ []) ∷ [])
unfolding verdict cutting walked item_at past function_at addresses_at address_at match_at substitute_at substituted delimiter_at outcome rest_of token_at
escaped_ampersand = is_script refl

first_group : Script (codes "s/\\(a\\)/\\1/") Basic (λ s. s.substitutions ≡ substitution (Some 0) (part 1 ∷ []) ∷ [])
unfolding verdict cutting walked item_at past function_at addresses_at address_at match_at substitute_at substituted delimiter_at outcome rest_of token_at text_from
first_group = is_script refl

newline_and_tab : Script (codes "s/a/\\n\\t/") Basic (λ s. s.substitutions ≡ substitution (Some 0) (literal 10 ∷ literal 9 ∷ []) ∷ [])
unfolding verdict cutting walked item_at past function_at addresses_at address_at match_at substitute_at substituted delimiter_at outcome rest_of token_at text_from
newline_and_tab = is_script refl

broken_line : Script (codes "s/a/b\\\nc/") Basic (λ s. s.substitutions ≡ substitution (Some 0) (literal 98 ∷ literal 10 ∷ literal 99 ∷ []) ∷ [])
unfolding verdict cutting walked item_at past function_at addresses_at address_at match_at substitute_at substituted delimiter_at outcome rest_of token_at text_from
broken_line = is_script refl

escaped_delimiter : Script (codes "s/x/\\//") Basic (λ s. s.substitutions ≡ substitution (Some 0) (literal 47 ∷ []) ∷ [])
unfolding verdict cutting walked item_at past function_at addresses_at address_at match_at substitute_at substituted delimiter_at outcome rest_of token_at
escaped_delimiter = is_script refl

digit_as_delimiter : Script (codes "s1a1\\11") Basic (λ s. s.substitutions ≡ substitution (Some 0) (literal 49 ∷ []) ∷ [])
unfolding verdict cutting walked item_at past function_at addresses_at address_at match_at substitute_at substituted delimiter_at outcome rest_of token_at text_from
digit_as_delimiter = is_script refl

group_of_the_last_expression : Script (codes "s//\\1/") Basic (λ s. s.substitutions ≡ substitution None (part 1 ∷ []) ∷ [])
unfolding verdict cutting walked item_at past function_at addresses_at address_at match_at substitute_at substituted delimiter_at outcome rest_of token_at
group_of_the_last_expression = is_script refl

all_occurrences : Script (codes "s/a/b/g") Basic (λ s. s.substitutions ≡ record (substitution (Some 0) (literal 98 ∷ [])) { global = true } ∷ [])
unfolding verdict cutting walked item_at past function_at addresses_at address_at match_at substitute_at substituted delimiter_at outcome rest_of token_at text_from
all_occurrences = is_script refl

second_occurrence : Script (codes "s/a/b/2") Basic (λ s. s.substitutions ≡ record (substitution (Some 0) (literal 98 ∷ [])) { number = 2 } ∷ [])
unfolding verdict cutting walked item_at past function_at addresses_at address_at match_at substitute_at substituted delimiter_at outcome rest_of token_at text_from
second_occurrence = is_script refl

greatest_occurrence : Script (codes "s/a/b/18446744073709551615") Basic (λ s. s.substitutions ≡ record (substitution (Some 0) (literal 98 ∷ [])) { number = 18446744073709551615 } ∷ [])
unfolding verdict cutting walked item_at past function_at addresses_at address_at match_at substitute_at substituted delimiter_at outcome rest_of token_at text_from
greatest_occurrence = is_script refl

second_with_a_zero : Script (codes "s/a/b/02") Basic (λ s. s.substitutions ≡ record (substitution (Some 0) (literal 98 ∷ [])) { number = 2 } ∷ [])
unfolding verdict cutting walked item_at past function_at addresses_at address_at match_at substitute_at substituted delimiter_at outcome rest_of token_at text_from
second_with_a_zero = is_script refl

second_and_later : Script (codes "s/a/x/2g") Basic (λ s. s.substitutions ≡ record (substitution (Some 0) (literal 120 ∷ [])) { number = 2; global = true } ∷ [])
unfolding verdict cutting walked item_at past function_at addresses_at address_at match_at substitute_at substituted delimiter_at outcome rest_of token_at text_from
second_and_later = is_script refl

printed : Script (codes "s/a/b/p") Basic (λ s. s.substitutions ≡ record (substitution (Some 0) (literal 98 ∷ [])) { print = true } ∷ [])
unfolding verdict cutting walked item_at past function_at addresses_at address_at match_at substitute_at substituted delimiter_at outcome rest_of token_at text_from
printed = is_script refl

written : Script (codes "s/a/b/pw out") Basic (λ s. s.substitutions ≡ record (substitution (Some 0) (literal 98 ∷ [])) { print = true; file = Some 1 } ∷ [])
unfolding verdict cutting walked item_at past function_at addresses_at address_at match_at substitute_at substituted delimiter_at outcome rest_of token_at text_from name_from
written = is_script refl

slash_in_a_list : Script (codes "s/[/]/x/") Basic (λ s. s.substitutions ≡ substitution (Some 0) (literal 120 ∷ []) ∷ [])
unfolding verdict cutting walked item_at past function_at addresses_at address_at match_at substitute_at substituted delimiter_at outcome rest_of token_at list_at list_end
slash_in_a_list = is_script refl

escaped_bar_as_delimiter : Script (codes "s|a\\|b|x|") Basic (λ s. s.expressions ≡ written_out (sequence (byte 97) (sequence (byte 124) (byte 98))) 0 ∷ [])
unfolding verdict cutting walked item_at past function_at addresses_at address_at match_at substitute_at substituted delimiter_at outcome rest_of token_at text_from
escaped_bar_as_delimiter = is_script refl

folded_expression : Script (codes "s/a/x/gI") Basic (λ s. s.expressions ≡ written_out (byte_of (folded_set (only 97))) 0 ∷ [])
unfolding verdict cutting walked item_at past function_at addresses_at address_at match_at substitute_at substituted delimiter_at outcome rest_of token_at text_from
folded_expression = is_script refl

flags_before_a_closing : Script (codes "{s/a/b/g}") Basic (λ s. s.commands ≡ always (action.Block 2) ∷ always (action.Substitute 0) ∷ [])
unfolding verdict cutting walked item_at past function_at addresses_at address_at match_at substitute_at substituted delimiter_at outcome rest_of token_at front_interval text_from
flags_before_a_closing = is_script refl

-- Tables of `y`.

transliterate : Script (codes "N;y/\\n/,/") Basic (λ s. s.commands ≡ always (action.Plain simple.AppendNext) ∷ always (action.Transliterate 0) ∷ [])
unfolding verdict cutting walked item_at past function_at addresses_at address_at second_at match_at substitute_at substituted delimiter_at outcome rest_of token_at transliterate_at
transliterate = is_script refl

newline_to_comma : Script (codes "y/\\n/,/") Basic (λ s. s.tables ≡ table_of (10 ∷ []) (44 ∷ []) ∷ [])
unfolding verdict cutting walked item_at past function_at addresses_at address_at second_at match_at substitute_at substituted delimiter_at outcome rest_of token_at transliterate_at
newline_to_comma = is_script refl

escaped_bytes : Script (codes "y/a\\/\\n/x:y/") Basic (λ s. s.tables ≡ table_of (97 ∷ 47 ∷ 10 ∷ []) (codes "x:y") ∷ [])
unfolding verdict cutting walked item_at past function_at addresses_at address_at match_at substitute_at substituted delimiter_at outcome rest_of token_at transliterate_at text_from
escaped_bytes = is_script refl

escaped_backslash : Script (codes "y/\\\\/b/") Basic (λ s. s.tables ≡ table_of (92 ∷ []) (98 ∷ []) ∷ [])
unfolding verdict cutting walked item_at past function_at addresses_at address_at match_at substitute_at substituted delimiter_at outcome rest_of token_at transliterate_at
escaped_backslash = is_script refl

tab_to_blank : Script (codes "y/\\t/ /") Basic (λ s. s.tables ≡ table_of (9 ∷ []) (32 ∷ []) ∷ [])
unfolding verdict cutting walked item_at past function_at addresses_at address_at match_at substitute_at substituted delimiter_at outcome rest_of token_at transliterate_at
tab_to_blank = is_script refl

empty_strings : Script (codes "y///") Basic (λ s. s.tables ≡ table_of [] [] ∷ [])
unfolding verdict cutting walked item_at past function_at addresses_at address_at match_at substitute_at substituted delimiter_at outcome rest_of token_at transliterate_at
empty_strings = is_script refl

y_before_a_closing : Script (codes "{y/a/b/}") Basic (λ s. s.commands ≡ always (action.Block 2) ∷ always (action.Transliterate 0) ∷ [])
unfolding verdict cutting walked item_at past function_at addresses_at address_at match_at substitute_at substituted delimiter_at outcome rest_of token_at front_interval transliterate_at text_from
y_before_a_closing = is_script refl

-- The text of a script that is put together from parts: each ends with a newline (this project's own).

part_without_a_newline : with_part [] (codes "p") ≡ codes "p\n"
part_without_a_newline = refl

part_with_a_newline : with_part (codes "p\n") (codes "d\n") ≡ codes "p\nd\n"
part_with_a_newline = refl

empty_part : with_part (codes "p\n") [] ≡ codes "p\n\n"
empty_part = refl

continued_part : with_part (with_part [] (codes "i\\")) (codes "  X") ≡ codes "i\\\n  X\n"
continued_part = refl
