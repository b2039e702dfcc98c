-- Examples of command lines from their words on: what clap makes of the words, and what the resulting line writes
-- (XCU sed, "Synopsis", "Options", "Operands").
use Rattle.std.proofs.Common.{◌≡◌, ◌||◌, ℕ, List, [], ◌∷◌, Bool, true, false, Global, refl, arith}
use Rattle.std.specs.Prelude.{codes, encode_utf8, nat_lt}
use Rattle.std.specs.List.{list_all}
use Rattle.std.specs.Str.{chars}
use Rattle.std.proofs.lemmas.Str.{chars-IsAscii, encode_ascii}
use Rattle.clap.specs.Words.{Text, fault_of, matches_of}
use Rattle.clap.specs.Walk.{bundle_met, walked as word_walked}
use Rattle.clap.specs.Faults.{defaults_fault, flags_fault, walk_fault}
use Rattle.clap.specs.declared.error.kind.ErrorKind.TheVariants.{DisplayHelp, InvalidValue, UnknownArgument}
use Rattle.sedfiles.specs.CommandLine.{AsksParts, IsCommandLine, given_to, is_given, sed_command}
use Rattle.sedfiles.specs.declared.asked.Part.{Part}
use Rattle.sedre.specs.Brackets.{delimiter_at}
use Rattle.sedre.specs.Tree.{tree_at, tree_within}
use Rattle.sedre.specs.Tokens.{token_at}
use Rattle.sedre.specs.Sets.{set_of}
use Rattle.sedmatch.specs.Matching.{any, greatest, copies, spans, longest, found_from, leftmost_longest, greatest_cut, first_copy, last_start, groups_after, reported_groups}
use Rattle.sedscript.specs.Items.{match_at, address_at, second_at, addresses_at, substitute_at, function_at, item_at}
use Rattle.sedscript.specs.Letters.{substituted}
use Rattle.sedscript.specs.Bytes.{past}
use Rattle.sedscript.specs.Arguments.{name_from, text_from}
use Rattle.sedscript.specs.Program.{Program}
use Rattle.sedspace.specs.Lines.{split_lines}
use Rattle.sedengine.specs.Move.{next_move}
use Rattle.sedengine.specs.Select.{selects}
use Rattle.sedengine.specs.Substitute.{occurrences_from}
use Rattle.sededit.specs.Program.{kind_with}
use Rattle.examples.proofs.ComputedReading.{outcome, rest_of}
use Rattle.examples.proofs.ComputedRun.{course, ends_after, no_files}
use Rattle.examples.proofs.ComputedScript.{verdict, cutting, walked, is_script}
use Rattle.examples.proofs.PartWords.{each_low, file, text}
use Rattle.examples.proofs.ProgramExamples.{Answers}

-- The words are a command line, which asks for this: whether -n and -E are given, the parts of the script and the operands
-- that are files.
record AsksFor (words : List Text) (quiet extended : Bool) (parts : List Part) (operands : List Text) : Type 0 where
  taken : IsCommandLine words
  is_quiet : is_given (codes "quiet") (matches_of sed_command words) ≡ quiet
  is_extended : is_given (codes "extended") (matches_of sed_command words) ≡ extended
  asks : AsksParts (given_to (codes "expression") (matches_of sed_command words)) (given_to (codes "file") (matches_of sed_command words))
      (given_to (codes "operand") (matches_of sed_command words)) parts operands

-- The letters of options in a word are its bytes.

letters : (bs : List ℕ) → list_all (λ b. nat_lt b 128) bs ≡ true → chars bs ≡ bs
letters bs low = chars-IsAscii bs (each_low bs low)

E_letters : chars (codes "E") ≡ codes "E"
E_letters = letters (codes "E") refl

e_letters : chars (codes "e") ≡ codes "e"
e_letters = letters (codes "e") refl

ep_letters : chars (codes "ep") ≡ codes "ep"
ep_letters = letters (codes "ep") refl

f_letters : chars (codes "f") ≡ codes "f"
f_letters = letters (codes "f") refl

h_letters : chars (codes "h") ≡ codes "h"
h_letters = letters (codes "h") refl

n_letters : chars (codes "n") ≡ codes "n"
n_letters = letters (codes "n") refl

nE_letters : chars (codes "nE") ≡ codes "nE"
nE_letters = letters (codes "nE") refl

z_letters : chars (codes "z") ≡ codes "z"
z_letters = letters (codes "z") refl

n_bytes : encode_utf8 110 ≡ codes "n"
n_bytes = encode_ascii 110 (omega arith)

e_bytes : encode_utf8 101 ≡ codes "e"
e_bytes = encode_ascii 101 (omega arith)

f_bytes : encode_utf8 102 ≡ codes "f"
f_bytes = encode_ascii 102 (omega arith)

-- ---- what the words ask for

-- `sed`
no_words : AsksFor [] false false [] []
unfolding sed_command word_walked bundle_met walk_fault flags_fault defaults_fault
no_words = record { taken = refl; is_quiet = refl; is_extended = refl; asks = ((refl, refl), refl) }

-- `sed -n`
no_script : AsksFor (codes "-n" ∷ []) true false [] []
unfolding sed_command word_walked bundle_met walk_fault flags_fault defaults_fault
no_script = record {
  taken = rw n_letters refl;
  is_quiet = rw n_letters refl;
  is_extended = rw n_letters refl;
  asks = rw n_letters ((refl, refl), refl);
}

-- `sed -n -n p`: an option may be repeated.
quiet_twice : (heap : Global) → AsksFor (codes "-n" ∷ codes "-n" ∷ codes "p" ∷ []) true false (text heap (codes "p") refl ∷ []) []
unfolding sed_command word_walked bundle_met walk_fault flags_fault defaults_fault
quiet_twice heap = record {
  taken = rw (n_letters, n_letters) refl;
  is_quiet = rw (n_letters, n_letters) refl;
  is_extended = rw (n_letters, n_letters) refl;
  asks = rw (n_letters, n_letters) ((refl, refl), refl);
}

-- `sed p a`: without -e and -f the first operand is the script.
script_first : (heap : Global) → AsksFor (codes "p" ∷ codes "a" ∷ []) false false (text heap (codes "p") refl ∷ []) (codes "a" ∷ [])
unfolding sed_command word_walked bundle_met walk_fault flags_fault defaults_fault
script_first heap = record { taken = refl; is_quiet = refl; is_extended = refl; asks = ((refl, refl), refl) }

-- `sed -nE 's/(a)+/x/p' f`
two_options_in_a_word : (heap : Global) → AsksFor (codes "-nE" ∷ codes "s/(a)+/x/p" ∷ codes "f" ∷ []) true true (text heap (codes "s/(a)+/x/p") refl ∷ []) (codes "f" ∷ [])
unfolding sed_command word_walked bundle_met walk_fault flags_fault defaults_fault
two_options_in_a_word heap = record {
  taken = rw (nE_letters, n_bytes, E_letters) refl;
  is_quiet = rw (nE_letters, n_bytes, E_letters) refl;
  is_extended = rw (nE_letters, n_bytes, E_letters) refl;
  asks = rw (nE_letters, n_bytes, E_letters) ((refl, refl), refl);
}

-- `sed -ep -e P a`: the script of an -e may come in the same word or be the next word.
two_scripts : (heap : Global) → AsksFor (codes "-ep" ∷ codes "-e" ∷ codes "P" ∷ codes "a" ∷ []) false false (text heap (codes "p") refl ∷ text heap (codes "P") refl ∷ []) (codes "a" ∷ [])
unfolding sed_command word_walked bundle_met walk_fault flags_fault defaults_fault
two_scripts heap = record {
  taken = rw (ep_letters, e_bytes, e_letters, e_bytes) refl;
  is_quiet = rw (ep_letters, e_bytes, e_letters, e_bytes) refl;
  is_extended = rw (ep_letters, e_bytes, e_letters, e_bytes) refl;
  asks = rw (ep_letters, e_bytes, e_letters, e_bytes) ((refl, refl), refl);
}

-- `sed -f s a`
script_in_a_file : (heap : Global) → AsksFor (codes "-f" ∷ codes "s" ∷ codes "a" ∷ []) false false (file heap (codes "s") refl ∷ []) (codes "a" ∷ [])
unfolding sed_command word_walked bundle_met walk_fault flags_fault defaults_fault
script_in_a_file heap = record {
  taken = rw (f_letters, f_bytes) refl;
  is_quiet = rw (f_letters, f_bytes) refl;
  is_extended = rw (f_letters, f_bytes) refl;
  asks = rw (f_letters, f_bytes) ((refl, refl), refl);
}

-- `sed p a -n`: an option after operands (that it may be there is this project's own).
option_at_the_end : (heap : Global) → AsksFor (codes "p" ∷ codes "a" ∷ codes "-n" ∷ []) true false (text heap (codes "p") refl ∷ []) (codes "a" ∷ [])
unfolding sed_command word_walked bundle_met walk_fault flags_fault defaults_fault
option_at_the_end heap = record {
  taken = rw n_letters refl;
  is_quiet = rw n_letters refl;
  is_extended = rw n_letters refl;
  asks = rw n_letters ((refl, refl), refl);
}

-- `sed -- p -n`: after `--` all words are operands.
operands_after_two_hyphens : (heap : Global) → AsksFor (codes "--" ∷ codes "p" ∷ codes "-n" ∷ []) false false (text heap (codes "p") refl ∷ []) (codes "-n" ∷ [])
unfolding sed_command word_walked bundle_met walk_fault flags_fault defaults_fault
operands_after_two_hyphens heap = record { taken = refl; is_quiet = refl; is_extended = refl; asks = ((refl, refl), refl) }

-- `sed p -`: a lone `-` is an operand.
lone_hyphen : (heap : Global) → AsksFor (codes "p" ∷ codes "-" ∷ []) false false (text heap (codes "p") refl ∷ []) (codes "-" ∷ [])
unfolding sed_command word_walked bundle_met walk_fault flags_fault defaults_fault
lone_hyphen heap = record { taken = refl; is_quiet = refl; is_extended = refl; asks = ((refl, refl), refl) }

-- `sed -z p` is refused.
unknown_option : fault_of sed_command (codes "-z" ∷ codes "p" ∷ []) ≡ UnknownArgument ∷ []
unfolding sed_command word_walked bundle_met walk_fault flags_fault defaults_fault
unknown_option = rw z_letters refl

-- `sed -e`, without a script after it, is refused.
missing_script : fault_of sed_command (codes "-e" ∷ []) ≡ InvalidValue ∷ []
unfolding sed_command word_walked bundle_met walk_fault flags_fault defaults_fault
missing_script = rw (e_letters, e_bytes) refl

-- `sed --help`
help : fault_of sed_command (codes "--help" ∷ []) ≡ DisplayHelp ∷ []
unfolding sed_command word_walked bundle_met walk_fault flags_fault defaults_fault
help = refl

-- `sed -h`
short_help : fault_of sed_command (codes "-h" ∷ []) ≡ DisplayHelp ∷ []
unfolding sed_command word_walked bundle_met walk_fault flags_fault defaults_fault
short_help = rw h_letters refl

-- ---- what their lines write

-- with -n or without it
abbrev asked : Bool → Program → Program
asked quiet p = record p { quiet = quiet || p.quiet }

-- The line of these words, over the files that there are and this standard input, writes these bytes.
record Writes (words : List Text) (standard output : List ℕ) : Type 0 where
  quiet : Bool
  extended : Bool
  parts : List Part
  operands : List Text
  asks : AsksFor words quiet extended parts operands
  answers : Answers (kind_with extended) (asked quiet) no_files parts standard operands output

script_first_writes : (heap : Global) → Writes (codes "p" ∷ codes "a" ∷ []) [] (codes "x\nx\n")
unfolding verdict cutting walked item_at past function_at addresses_at address_at second_at text_from name_from split_lines course next_move selects
script_first_writes heap = record {
  quiet = false;
  extended = false;
  parts = text heap (codes "p") refl ∷ [];
  operands = codes "a" ∷ [];
  asks = script_first heap;
  answers = record { whole = codes "p\n"; made = refl; bytes = codes "x\n"; gives = refl; runs = is_script (ends_after 60 refl refl) };
}

two_options_in_a_word_write : (heap : Global) → Writes (codes "-nE" ∷ codes "s/(a)+/x/p" ∷ codes "f" ∷ []) [] (codes "x\n")
unfolding verdict cutting walked item_at past function_at addresses_at address_at second_at text_from name_from split_lines course next_move selects match_at substitute_at substituted delimiter_at outcome rest_of token_at set_of tree_at tree_within leftmost_longest found_from longest greatest spans any copies reported_groups groups_after greatest_cut first_copy last_start occurrences_from
two_options_in_a_word_write heap = record {
  quiet = true;
  extended = true;
  parts = text heap (codes "s/(a)+/x/p") refl ∷ [];
  operands = codes "f" ∷ [];
  asks = two_options_in_a_word heap;
  answers = record { whole = codes "s/(a)+/x/p\n"; made = refl; bytes = codes "aa\n"; gives = refl; runs = is_script (ends_after 60 refl refl) };
}

two_scripts_write : (heap : Global) → Writes (codes "-ep" ∷ codes "-e" ∷ codes "P" ∷ codes "a" ∷ []) [] (codes "x\nx\nx\n")
unfolding verdict cutting walked item_at past function_at addresses_at address_at second_at text_from name_from split_lines course next_move selects
two_scripts_write heap = record {
  quiet = false;
  extended = false;
  parts = text heap (codes "p") refl ∷ text heap (codes "P") refl ∷ [];
  operands = codes "a" ∷ [];
  asks = two_scripts heap;
  answers = record { whole = codes "p\nP\n"; made = refl; bytes = codes "x\n"; gives = refl; runs = is_script (ends_after 60 refl refl) };
}

-- The script that a file holds is `#n` and `p`.
script_in_a_file_writes : (heap : Global) → Writes (codes "-f" ∷ codes "s" ∷ codes "a" ∷ []) [] (codes "x\n")
unfolding verdict cutting walked item_at past function_at addresses_at address_at second_at text_from name_from split_lines course next_move selects
script_in_a_file_writes heap = record {
  quiet = false;
  extended = false;
  parts = file heap (codes "s") refl ∷ [];
  operands = codes "a" ∷ [];
  asks = script_in_a_file heap;
  answers = record {
    whole = codes "#n\np\n";
    made = (codes "#n\np", refl, refl);
    bytes = codes "x\n";
    gives = refl;
    runs = is_script (ends_after 60 refl refl);
  };
}

option_at_the_end_writes : (heap : Global) → Writes (codes "p" ∷ codes "a" ∷ codes "-n" ∷ []) [] (codes "x\n")
unfolding verdict cutting walked item_at past function_at addresses_at address_at second_at text_from name_from split_lines course next_move selects
option_at_the_end_writes heap = record {
  quiet = true;
  extended = false;
  parts = text heap (codes "p") refl ∷ [];
  operands = codes "a" ∷ [];
  asks = option_at_the_end heap;
  answers = record { whole = codes "p\n"; made = refl; bytes = codes "x\n"; gives = refl; runs = is_script (ends_after 60 refl refl) };
}

lone_hyphen_writes : (heap : Global) → Writes (codes "p" ∷ codes "-" ∷ []) (codes "y\n") (codes "y\ny\n")
unfolding verdict cutting walked item_at past function_at addresses_at address_at second_at text_from name_from split_lines course next_move selects
lone_hyphen_writes heap = record {
  quiet = false;
  extended = false;
  parts = text heap (codes "p") refl ∷ [];
  operands = codes "-" ∷ [];
  asks = lone_hyphen heap;
  answers = record { whole = codes "p\n"; made = refl; bytes = codes "y\n"; gives = refl; runs = is_script (ends_after 60 refl refl) };
}
