-- Examples of runs over up to 1,000,000 lines of up to 500,000 bytes: `$!N;P;D` joins each line with the next one, and writes
-- all of them as they are.
use Rattle.std.proofs.Common.{◌≡◌, ℕ, zero, suc, ◌+◌, ◌*◌, ◌≤◌, false, List, [], ◌∷◌, ◌++◌, length, Some, None, refl, sym, ◌∙◌, ap, subst, append_assoc, length-append, arith}
use Rattle.std.specs.Prelude.{codes, replicate}
use Rattle.std.specs.List.{list_any}
use Rattle.std.proofs.lemmas.Bool.{le-leb}
use Rattle.std.proofs.lemmas.List.{length-replicate}
use Rattle.sedre.specs.declared.types.Kind.TheVariants.{Basic}
use Rattle.sedscript.specs.declared.types.Action.TheVariants.{Plain}
use Rattle.sedscript.specs.declared.types.Simple.TheVariants.{AppendNext, DeleteFirst, PrintFirst}
use Rattle.sedscript.specs.declared.types.Address.TheVariants.{Last}
use Rattle.sedscript.specs.Items.{address_at, second_at, addresses_at, function_at, item_at}
use Rattle.sedscript.specs.Bytes.{past}
use Rattle.sedscript.specs.Arguments.{name_from, text_from}
use Rattle.sedscript.specs.Program.{Program}
use Rattle.sedspace.specs.Lines.{is_newline, split_lines}
use Rattle.sedengine.specs.Ends.{RanWhole, WithinLimits}
use Rattle.sedengine.specs.Move.{line_to, next_move, start, to_sink}
use Rattle.sedengine.specs.State.{setting_of, begin, do_at, flush, join, rebegin, Setting, MachineState, Task}
use Rattle.sedengine.specs.Select.{selects}
use Rattle.sedengine.specs.Types.{Done}
use Rattle.sedengine.proofs.Gains.{to_sink-append}
use Rattle.examples.proofs.ComputedEnds.{all_fit, whole_after, whole_first, stops_whole, Stops, StopsBy}
use Rattle.examples.proofs.ComputedRun.{course, plain, no_files}
use Rattle.examples.proofs.ComputedScript.{verdict, cutting, walked, is_script}
use Rattle.examples.proofs.LineLaws.{after_it, all_of_it, before_it, has_it, line_again}
use Rattle.examples.proofs.ScriptWords.{always, at, unless}
use Rattle.examples.proofs.LimitWords.{own}

abbrev program : Program
program = record {
  commands = unless (at Last (Plain AppendNext)) ∷ always (Plain PrintFirst) ∷ always (Plain DeleteFirst) ∷ [];
  expressions = [];
  texts = [];
  substitutions = [];
  tables = [];
  rfiles = [];
  wfiles = [];
  quiet = false;
  max_nodes = 65536;
}

abbrev setting : Setting
setting = setting_of program no_files

-- no line has a newline in it, or more than 500,000 bytes
abbrev AreLines : List (List ℕ) → Type 0
AreLines [] = Unit {0}
AreLines (line ∷ lines) = (list_any is_newline line ≡ false) × (length line ≤ 500000) × AreLines lines

-- the text that has these lines
abbrev text_of : List (List ℕ) → List ℕ
text_of [] = []
text_of (line ∷ lines) = line ++ 10 ∷ text_of lines

-- ---- lines and newlines

lines_are : (ls : List (List ℕ)) → AreLines ls → split_lines (text_of ls) ≡ ls
unfolding split_lines
lines_are [] are = refl
lines_are (line ∷ ls) are = line_again line (text_of ls) are.0 ∙ ap (λ (rest : List (List ℕ)). line ∷ rest) (lines_are ls are.2)

line_first : (line rest : List ℕ) → line_to 0 line ++ to_sink 0 rest ≡ to_sink 0 (line ++ 10 ∷ rest)
line_first line rest = sym (to_sink-append 0 (line ++ 10 ∷ []) rest) ∙ ap (to_sink 0) (append_assoc line (10 ∷ []) rest)

-- ---- the moves

abbrev state : (lines : List (List ℕ)) (number : ℕ) (pattern : List ℕ) → List Task → (turns : ℕ) → MachineState
state lines number pattern tasks turns = record {
  lines = lines;
  number = number;
  pattern = pattern;
  hold = [];
  replaced = false;
  queue = [];
  ranges = false ∷ false ∷ false ∷ [];
  used = None;
  tasks = tasks;
  turns = turns;
}

abbrev Goes : MachineState → MachineState → List (ℕ × ℕ) → Type 0
Goes s next bytes = next_move setting s ≡ Some (record { next = next; writes = bytes })

module _ (rest : List (List ℕ)) (number turns : ℕ) (line : List ℕ) where
  appends : (next : List ℕ) → Goes (state (next ∷ rest) number line (do_at 0 ∷ []) turns) (state (next ∷ rest) number line (flush ∷ join ∷ do_at 1 ∷ []) (turns + 1)) []
  unfolding next_move selects
  appends next = refl

  joins : (next : List ℕ) → Goes (state (next ∷ rest) number line (flush ∷ join ∷ do_at 1 ∷ []) turns) (state (next ∷ rest) number line (join ∷ do_at 1 ∷ []) turns) []
  unfolding next_move
  joins next = refl

  joined : (next : List ℕ) → Goes (state (next ∷ rest) number line (join ∷ do_at 1 ∷ []) turns) (state rest (number + 1) (line ++ 10 ∷ next) (do_at 1 ∷ []) turns) []
  unfolding next_move
  joined next = refl

  prints_first : (next : List ℕ) → list_any is_newline line ≡ false →
      Goes (state rest number (line ++ 10 ∷ next) (do_at 1 ∷ []) turns) (state rest number (line ++ 10 ∷ next) (do_at 2 ∷ []) (turns + 1)) (line_to 0 line)
  unfolding next_move selects
  prints_first next none = rw (before_it line next none) refl

  deletes_first : (next : List ℕ) → list_any is_newline line ≡ false →
      Goes (state rest number (line ++ 10 ∷ next) (do_at 2 ∷ []) turns) (state rest number next (flush ∷ rebegin ∷ []) (turns + 1)) []
  unfolding next_move selects
  deletes_first next none = rw (has_it line next, after_it line next none) refl

  flushes : Goes (state rest number line (flush ∷ rebegin ∷ []) turns) (state rest number line (rebegin ∷ []) turns) []
  unfolding next_move
  flushes = refl

  begins_again : Goes (state rest number line (rebegin ∷ []) turns) (state rest number line (do_at 0 ∷ []) (turns + 1)) []
  unfolding next_move
  begins_again = refl

module _ (number turns : ℕ) (line : List ℕ) where
  passes_over : Goes (state [] number line (do_at 0 ∷ []) turns) (state [] number line (do_at 1 ∷ []) (turns + 1)) []
  unfolding next_move selects
  passes_over = refl

  prints_last : list_any is_newline line ≡ false → Goes (state [] number line (do_at 1 ∷ []) turns) (state [] number line (do_at 2 ∷ []) (turns + 1)) (line_to 0 line)
  unfolding next_move selects
  prints_last none = rw (all_of_it line none) refl

  deletes_last : list_any is_newline line ≡ false → Goes (state [] number line (do_at 2 ∷ []) turns) (state [] number [] (flush ∷ begin ∷ []) (turns + 1)) []
  unfolding next_move selects
  deletes_last none = rw none refl

  flushes_last : Goes (state [] number line (flush ∷ begin ∷ []) turns) (state [] number line (begin ∷ []) turns) []
  unfolding next_move
  flushes_last = refl

  ends_there : Goes (state [] number line (begin ∷ []) turns) (state [] number line [] turns) []
  unfolding next_move
  ends_there = refl

fits : {lines : List (List ℕ)} {number : ℕ} {pattern : List ℕ} {tasks : List Task} {turns : ℕ} → length pattern ≤ 1048576 → turns ≤ 18446744073709551615 →
    WithinLimits own (state lines number pattern tasks turns)
fits small few = record { pattern = small; hold = omega arith; queue = omega arith; turns = few }

-- a run comes to its end after some moves
abbrev Comes : MachineState → List (ℕ × ℕ) → Type 0
Comes s out = (t : ℕ) × RanWhole own setting s out Done t

first : {s next : MachineState} {bytes out : List (ℕ × ℕ)} → Goes s next bytes → WithinLimits own s → Comes next out → Comes s (bytes ++ out)
first go within rest = (suc rest.0, whole_first go within rest.1)

ended : (number turns : ℕ) → turns ≤ 18446744073709551615 → RanWhole own setting (state [] number [] [] turns) [] Done 0
unfolding course all_fit
ended number turns few = whole_after 0 refl refl (rw (le-leb turns 18446744073709551615 few) refl)

last_line : (number turns : ℕ) (line : List ℕ) → list_any is_newline line ≡ false → length line ≤ 500000 → turns + 3 ≤ 18446744073709551615 →
    Comes (state [] number line (do_at 0 ∷ []) turns) (to_sink 0 (line ++ 10 ∷ []))
last_line number turns line none small few =
    subst (λ (out : List (ℕ × ℕ)). Comes (state [] number line (do_at 0 ∷ []) turns) out) (line_first line [])
    (first (passes_over number turns line) (fits (omega (arith, small)) (omega (arith, few)))
    (first (prints_last number (turns + 1) line none) (fits (omega (arith, small)) (omega (arith, few)))
    (first (deletes_last number (turns + 1 + 1) line none) (fits (omega (arith, small)) (omega (arith, few)))
    (first (flushes_last number (turns + 1 + 1 + 1) []) (fits (omega arith) (omega (arith, few)))
    (first (ends_there number (turns + 1 + 1 + 1) []) (fits (omega arith) (omega (arith, few)))
    (0, ended number (turns + 1 + 1 + 1) (omega (arith, few))))))))

-- the line in the pattern space and all that are left are written
all_lines : (rest : List (List ℕ)) (number turns : ℕ) (line : List ℕ) → AreLines (line ∷ rest) → turns + 4 * length rest + 3 ≤ 18446744073709551615 →
    Comes (state rest number line (do_at 0 ∷ []) turns) (to_sink 0 (text_of (line ∷ rest)))
all_lines [] number turns line are few = last_line number turns line are.0 are.1 (omega (arith, few))
all_lines (next ∷ rest) number turns line are few =
    let none = are.0 in
    let small = are.1 in
    let next_small = are.2.1 in
    let pair : length (line ++ 10 ∷ next) ≤ 1048576 = omega (arith, length-append line (10 ∷ next), small, next_small) in
    subst (λ (out : List (ℕ × ℕ)). Comes (state (next ∷ rest) number line (do_at 0 ∷ []) turns) out) (line_first line (text_of (next ∷ rest)))
    (first (appends rest number turns line next) (fits (omega (arith, small)) (omega (arith, few)))
    (first (joins rest number (turns + 1) line next) (fits (omega (arith, small)) (omega (arith, few)))
    (first (joined rest number (turns + 1) line next) (fits (omega (arith, small)) (omega (arith, few)))
    (first (prints_first rest (number + 1) (turns + 1) line next none) (fits pair (omega (arith, few)))
    (first (deletes_first rest (number + 1) (turns + 1 + 1) line next none) (fits pair (omega (arith, few)))
    (first (flushes rest (number + 1) (turns + 1 + 1 + 1) next) (fits (omega (arith, next_small)) (omega (arith, few)))
    (first (begins_again rest (number + 1) (turns + 1 + 1 + 1) next) (fits (omega (arith, next_small)) (omega (arith, few)))
    (all_lines rest (number + 1) (turns + 1 + 1 + 1 + 1) next are.2 (omega (arith, few))))))))))

-- ---- whole runs

starts : (line : List ℕ) (rest : List (List ℕ)) → Goes (start program.commands (line ∷ rest)) (state rest 1 line (do_at 0 ∷ []) 1) []
unfolding next_move
starts line rest = refl

fits_start : (ls : List (List ℕ)) → WithinLimits own (start program.commands ls)
fits_start ls = record { pattern = omega arith; hold = omega arith; queue = omega arith; turns = omega arith }

run : (ls : List (List ℕ)) → AreLines ls → length ls ≤ 1000000 → Stops own setting (start program.commands ls) Done (to_sink 0 (text_of ls))
unfolding course next_move all_fit
run [] are few = stops_whole (whole_after 1 refl refl refl) refl
run (line ∷ rest) are few =
    stops_whole (first (starts line rest) (fits_start (line ∷ rest)) (all_lines rest 1 1 line are (omega (arith, few)))).1 refl

unchanged : (ls : List (List ℕ)) → AreLines ls → length ls ≤ 1000000 → StopsBy own Basic plain no_files (codes "$!N;P;D") (text_of ls) Done (to_sink 0 (text_of ls))
unfolding verdict cutting walked item_at past function_at addresses_at address_at second_at text_from name_from
unchanged ls are few =
    is_script (subst (λ (x : List (List ℕ)). Stops own setting (start program.commands x) Done (to_sink 0 (text_of ls))) (sym (lines_are ls are)) (run ls are few))

-- Lines of a, each one byte shorter than the one before it.

abbrev stairs : ℕ → List (List ℕ)
stairs zero = []
stairs (suc n) = replicate n 97 ∷ stairs n

no_newline_in : (n : ℕ) → list_any is_newline (replicate n 97) ≡ false
no_newline_in zero = refl
no_newline_in (suc n) = no_newline_in n

stairs_are : (n : ℕ) → n ≤ 500000 → AreLines (stairs n)
stairs_are zero few = tt
stairs_are (suc n) few = (no_newline_in n, omega (arith, few, length-replicate {A = ℕ} n 97), stairs_are n (omega (arith, few)))

stairs-length : (n : ℕ) → length (stairs n) ≡ n
stairs-length zero = refl
stairs-length (suc n) = ap suc (stairs-length n)

stairs_unchanged : (n : ℕ) → n ≤ 500000 → StopsBy own Basic plain no_files (codes "$!N;P;D") (text_of (stairs n)) Done (to_sink 0 (text_of (stairs n)))
stairs_unchanged n few = unchanged (stairs n) (stairs_are n few) (omega (arith, few, stairs-length n))

thousand_lines_unchanged : StopsBy own Basic plain no_files (codes "$!N;P;D") (text_of (stairs 1000)) Done (to_sink 0 (text_of (stairs 1000)))
thousand_lines_unchanged = stairs_unchanged 1000 (omega arith)
