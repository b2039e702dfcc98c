-- Examples of what the program's command lines come to, computed by the definitions from the parts of a script on: the
-- script's text, the files, and what is written or how the run ends (XCU sed, "Options", "Operands").
use Rattle.std.proofs.Common.{◌≡◌, ◌≢◌, Global, ℕ, List, [], ◌∷◌, Option, Some, None, Err, refl, subst, arith, rules}
use Rattle.std.specs.Prelude.{codes}
use Rattle.sedre.specs.declared.types.Kind.{Kind}
use Rattle.sedre.specs.declared.types.Kind.TheVariants.{Basic}
use Rattle.sedre.specs.Brackets.{delimiter_at}
use Rattle.examples.proofs.ComputedScript.{verdict, cutting, walked, Script, is_script}
use Rattle.sedscript.specs.Program.{Program}
use Rattle.sedscript.specs.Items.{match_at, address_at, second_at, addresses_at, function_at, item_at}
use Rattle.sedscript.specs.Bytes.{past}
use Rattle.sedscript.specs.Arguments.{name_from, text_from}
use Rattle.sedspace.specs.Lines.{HasNoNewline, split_lines}
use Rattle.sedengine.specs.Ends.{bytes_of_sink, GainedWithin, SourceAtEnd, IsCause, BreaksInLine, LosesPartAfter, SinkAtEnd}
use Rattle.sedengine.specs.Move.{after, next_move, to_sink}
use Rattle.sedengine.specs.State.{setting_of}
use Rattle.sedengine.specs.Select.{selects}
use Rattle.sedengine.specs.Types.{Ended, Done, NoPrevious, InputBroken, OutputBroken, OutputFull}
use Rattle.examples.proofs.ComputedEnds.{all_fit, stops_after, stops_within, Stops}
use Rattle.examples.proofs.ComputedRun.{course, ends_after, plain, quiet, no_files, Edits}
use Rattle.sedfiles.specs.declared.asked.Part.{Part}
use Rattle.sededit.specs.Editing.{nothing_before, start_over}
use Rattle.sedfiles.specs.MemoryFiles.{NamedFile, file_of, files_of}
use Rattle.sedfiles.specs.Files.{joined_files}
use Rattle.sededit.specs.Program.{MakesText, Observed, StopsEarly, or_standard}
use Rattle.examples.proofs.LimitWords.{own}
use Rattle.examples.proofs.PartWords.{file, text}

-- the files that there are: `a` with one line, `f` without a newline, and the script `s`
abbrev pub there : List NamedFile
there =
    record { name = codes "a"; bytes = codes "x\n" } ∷ record { name = codes "f"; bytes = codes "aa" }
    ∷ record { name = codes "s"; bytes = codes "#n\np" } ∷ []

-- the input of these operands, with this standard input
abbrev pub input : (standard : List ℕ) → (operands : List (List ℕ)) → Option (List ℕ)
input standard operands = joined_files (λ names. Some (files_of there standard names)) (or_standard operands)

-- the script of these parts is this text
abbrev pub Text : List Part → List ℕ → Type 0
Text parts whole = MakesText (λ name. Some (file_of there name)) [] parts whole

two_parts : (heap : Global) → Text (text heap (codes "i\\") refl ∷ text heap (codes "  X") refl ∷ []) (codes "i\\\n  X\n")
two_parts heap = refl

part_of_a_file : (heap : Global) → Text (file heap (codes "s") refl ∷ []) (codes "#n\np\n")
part_of_a_file heap = (codes "#n\np", refl, refl)

part_before_a_file : (heap : Global) → Text (text heap (codes "p") refl ∷ file heap (codes "s") refl ∷ []) (codes "p\n#n\np\n")
part_before_a_file heap = (codes "#n\np", refl, refl)

-- A file that can't be read gives no script.
no_file : (heap : Global) (whole : List ℕ) → Text (file heap (codes "nofile") refl ∷ []) whole → ⊥
no_file heap whole made = (let none : Some made.0 ≡ None = made.1 in absurd cc)

standard_input : input (codes "a\n") [] ≡ Some (codes "a\n")
standard_input = refl

-- The second `-` goes on where the first ended.
standard_input_twice : input (codes "x\n") (codes "-" ∷ codes "-" ∷ []) ≡ Some (codes "x\n")
standard_input_twice = refl

file_without_a_newline : input [] (codes "f" ∷ codes "a" ∷ []) ≡ Some (codes "aa\nx\n")
file_without_a_newline = refl

-- One that can't be opened is as an empty one.
missed_file : input [] (codes "a" ∷ codes "nofile" ∷ []) ≡ Some (codes "x\n")
missed_file = refl

-- These parts make a script that over the input of these operands writes these bytes.
pub record Answers (kind : Kind) (asked : Program → Program) (files : ℕ → List ℕ) (parts : List Part) (standard : List ℕ)
    (operands : List (List ℕ)) (output : List ℕ) : Type 0 where
  pub whole : List ℕ
  pub made : Text parts whole
  pub bytes : List ℕ
  pub gives : input standard operands ≡ Some bytes
  pub runs : Edits kind asked files whole bytes (to_sink 0 output)

-- `sed -e 'i\' -e '  X'`, with a on the standard input
text_over_two_parts : (heap : Global) → Answers Basic plain no_files (text heap (codes "i\\") refl ∷ text heap (codes "  X") refl ∷ []) (codes "a\n") [] (codes "  X\na\n")
unfolding verdict cutting walked item_at past function_at addresses_at address_at second_at text_from name_from split_lines course next_move selects
text_over_two_parts heap = record {
  whole = codes "i\\\n  X\n";
  made = refl;
  bytes = codes "a\n";
  gives = refl;
  runs = is_script (ends_after 60 refl refl);
}

-- `sed -f s a`
script_of_a_file : (heap : Global) → Answers Basic plain no_files (file heap (codes "s") refl ∷ []) [] (codes "a" ∷ []) (codes "x\n")
unfolding verdict cutting walked item_at past function_at addresses_at address_at second_at text_from name_from split_lines course next_move selects
script_of_a_file heap = record {
  whole = codes "#n\np\n";
  made = (codes "#n\np", refl, refl);
  bytes = codes "x\n";
  gives = refl;
  runs = is_script (ends_after 60 refl refl);
}

-- `sed -e p -f s a`: `#n` is not in the first line.
script_before_a_file : (heap : Global) → Answers Basic plain no_files (text heap (codes "p") refl ∷ file heap (codes "s") refl ∷ []) [] (codes "a" ∷ []) (codes "x\nx\nx\n")
unfolding verdict cutting walked item_at past function_at addresses_at address_at second_at text_from name_from split_lines course next_move selects
script_before_a_file heap = record {
  whole = codes "p\n#n\np\n";
  made = (codes "#n\np", refl, refl);
  bytes = codes "x\n";
  gives = refl;
  runs = is_script (ends_after 60 refl refl);
}

-- `sed p - -`
standard_input_named_twice : (heap : Global) → Answers Basic plain no_files (text heap (codes "p") refl ∷ []) (codes "x\n") (codes "-" ∷ codes "-" ∷ []) (codes "x\nx\n")
unfolding verdict cutting walked item_at past function_at addresses_at address_at second_at text_from name_from split_lines course next_move selects
standard_input_named_twice heap = record {
  whole = codes "p\n";
  made = refl;
  bytes = codes "x\n";
  gives = refl;
  runs = is_script (ends_after 60 refl refl);
}

-- `sed -n '$p' a nofile`
last_line_before_a_missed_file : (heap : Global) → Answers Basic quiet no_files (text heap (codes "$p") refl ∷ []) [] (codes "a" ∷ codes "nofile" ∷ []) (codes "x\n")
unfolding verdict cutting walked item_at past function_at addresses_at address_at second_at text_from name_from split_lines course next_move selects
last_line_before_a_missed_file heap = record {
  whole = codes "$p\n";
  made = refl;
  bytes = codes "x\n";
  gives = refl;
  runs = is_script (ends_after 60 refl refl);
}

-- `sed 1q a nofile`
quit_before_a_file : (heap : Global) → Answers Basic plain no_files (text heap (codes "1q") refl ∷ []) [] (codes "a" ∷ codes "nofile" ∷ []) (codes "x\n")
unfolding verdict cutting walked item_at past function_at addresses_at address_at second_at text_from name_from split_lines course next_move selects
quit_before_a_file heap = record {
  whole = codes "1q\n";
  made = refl;
  bytes = codes "x\n";
  gives = refl;
  runs = is_script (ends_after 60 refl refl);
}

-- `sed p nofile a`
missed_file_first : (heap : Global) → Answers Basic plain no_files (text heap (codes "p") refl ∷ []) [] (codes "nofile" ∷ codes "a" ∷ []) (codes "x\nx\n")
unfolding verdict cutting walked item_at past function_at addresses_at address_at second_at text_from name_from split_lines course next_move selects
missed_file_first heap = record {
  whole = codes "p\n";
  made = refl;
  bytes = codes "x\n";
  gives = refl;
  runs = is_script (ends_after 60 refl refl);
}

-- `sed 'r f' a`, where f is y and a newline
file_of_the_script : (heap : Global) → Answers Basic plain (λ k. codes "y\n") (text heap (codes "r f") refl ∷ []) [] (codes "a" ∷ []) (codes "x\ny\n")
unfolding verdict cutting walked item_at past function_at addresses_at address_at second_at text_from name_from split_lines course next_move selects
file_of_the_script heap = record {
  whole = codes "r f\n";
  made = refl;
  bytes = codes "x\n";
  gives = refl;
  runs = is_script (ends_after 60 refl refl);
}

-- Runs that stop early.

-- what is observed where reads of the input have failed so often, and each sink so often, and the standard output holds this
abbrev observed : ℕ → ℕ → List ℕ → Observed
observed reads failures output = record { refusals = 0; reads = reads; contents = λ k. Some (bytes_of_sink k (to_sink 0 output)); failures = λ k. failures }

-- The script of a text, over this input, stops early, when these bytes were written and the input has these still to give: so
-- many of its reads have failed, and each sink so often.
abbrev Stopped : (whole bytes rest : List ℕ) → ℕ → ℕ → List ℕ → Type 0
Stopped whole bytes rest reads failures output =
    Script whole Basic (λ p. StopsEarly own (observed 0 0 []) (observed reads failures output) (λ more. more ≡ Some rest)
    (record { script = p; input = Some bytes; texts = λ k. None }))

-- A script's run over this input comes to this end whichever files the script may read.
record OverAnyFiles (p : Program) (bytes rest output : List ℕ) (end : Ended) : Type 0 where
  each : (files : ℕ → List ℕ) → Stops own (setting_of p files) (start_over p bytes) end (to_sink 0 output)
  breaks : (files : ℕ → List ℕ) → end ≡ InputBroken → BreaksInLine (setting_of p files) (start_over p bytes) (Some bytes) (Some rest) own.space (each files).moves

over_any : {p : Program} {bytes rest output : List ℕ} {end : Ended} →
    (each : (files : ℕ → List ℕ) → Stops own (setting_of p files) (start_over p bytes) end (to_sink 0 output)) →
    ((files : ℕ → List ℕ) → end ≡ InputBroken → BreaksInLine (setting_of p files) (start_over p bytes) (Some bytes) (Some rest) own.space (each files).moves) →
    OverAnyFiles p bytes rest output end
over_any each breaks = record { each = each; breaks = breaks }

-- all of it is within the limits that set none on the output, where the end names no sink as full
gains_all : (output : List ℕ) (end : Ended) → ((k : ℕ) → end ≢ OutputFull k) → GainedWithin None nothing_before (λ k. Some []) (λ k. Some (bytes_of_sink k (to_sink 0 output))) (Err end) (to_sink 0 output)
gains_all output (OutputFull k) other = absurd (other k refl)
gains_all output end other = record { gained = record { each = λ k. refl }; within = tt; full = tt }

stopped : (whole bytes rest : List ℕ) (reads failures : ℕ) (output : List ℕ) (end : Ended) → Script whole Basic (λ p. OverAnyFiles p bytes rest output end) →
    end ≢ Done → ((k : ℕ) → end ≢ OutputFull k) → SourceAtEnd 0 reads end × SinkAtEnd None (λ k. 0) (λ k. failures) end → Stopped whole bytes rest reads failures output
stopped whole bytes rest reads failures output end s other room has =
    let p = s.program in
    record {
      program = p;
      meant = s.meant;
      is = (
        end,
        other,
        has,
        λ given known files shows.
            let same : bytes ≡ given = cc in
            let run = s.is.each files in (
              to_sink 0 output,
              gains_all output end room,
              run.moves,
              subst (λ (x : List ℕ). IsCause own (setting_of p files) (start_over p x) (to_sink 0 output) end run.moves) same run.cause,
              λ is. (Some rest, refl, subst (λ (x : List ℕ). BreaksInLine (setting_of p files) (start_over p x) (Some bytes) (Some rest) own.space run.moves) same (s.is.breaks files is)),
            ),
      );
    }

part_only : HasNoNewline (codes "b")
part_only = search rules

part_gone : LosesPartAfter (Some (codes "a\nbc\n")) (Some (codes "c\n")) 2 own.space
part_gone = (codes "a\nb", refl, part_only, omega arith)

-- The second line cannot be read to its end: its first byte is gone.
input_broke_run : Script (codes "p\n") Basic (λ p. OverAnyFiles p (codes "a\nbc\n") (codes "c\n") (codes "a\na\n") InputBroken)
unfolding verdict cutting walked item_at past function_at addresses_at address_at second_at text_from name_from split_lines after course next_move selects all_fit
input_broke_run = is_script (over_any {bytes = codes "a\nbc\n"} {rest = codes "c\n"} {output = codes "a\na\n"} {end = InputBroken} (λ files. stops_after 6 refl refl refl refl) (λ files is. (codes "a" ∷ [], refl, part_gone)))

input_broke : Stopped (codes "p\n") (codes "a\nbc\n") (codes "c\n") 1 0 (codes "a\na\n")
input_broke = stopped (codes "p\n") (codes "a\nbc\n") (codes "c\n") 1 0 (codes "a\na\n") InputBroken input_broke_run (λ e. absurd cc) (λ k e. absurd cc) (omega arith, tt)

-- The standard output takes three bytes.
output_broke_run : Script (codes "p\n") Basic (λ p. OverAnyFiles p (codes "ab\n") [] (codes "ab\n") (OutputBroken 0))
unfolding verdict cutting walked item_at past function_at addresses_at address_at second_at text_from name_from split_lines course next_move selects all_fit
output_broke_run = is_script (over_any (λ files. stops_within 3 0 97 refl refl refl refl refl) (λ files is. absurd cc))

output_broke : Stopped (codes "p\n") (codes "ab\n") [] 0 1 (codes "ab\n")
output_broke = stopped (codes "p\n") (codes "ab\n") [] 0 1 (codes "ab\n") (OutputBroken 0) output_broke_run (λ e. absurd cc) (λ k e. absurd cc) (refl, omega arith)

-- `sed //p nofile a`: no device has failed.
no_previous_expression_run : Script (codes "//p\n") Basic (λ p. OverAnyFiles p (codes "x\n") [] (codes "") (NoPrevious 1))
unfolding verdict cutting walked item_at past function_at addresses_at address_at second_at text_from name_from split_lines course next_move selects all_fit match_at delimiter_at
no_previous_expression_run = is_script (over_any (λ files. stops_after 1 refl refl refl refl) (λ files is. absurd cc))

no_previous_expression : Stopped (codes "//p\n") (codes "x\n") [] 0 0 (codes "")
no_previous_expression = stopped (codes "//p\n") (codes "x\n") [] 0 0 (codes "") (NoPrevious 1) no_previous_expression_run (λ e. absurd cc) (λ k e. absurd cc) (refl, tt)
