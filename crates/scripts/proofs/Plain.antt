-- Scripts of one to three commands, over any lines.
use Rattle.std.proofs.Common.{◌≡◌, ℕ, suc, zero, ◌+◌, ◌-◌, ◌<◌, ◌≤◌, List, [], ◌∷◌, ◌++◌, length, take, drop, Bool, true, false, Option, None, refl, ap, subst, append-nil, arith}
use Rattle.std.specs.Prelude.{nat_eq, nat_lt, nat_le, decimal}
use Rattle.std.specs.List.{flat_map}
use Rattle.std.proofs.lemmas.Bool.Decides.{nat_tests}
use Rattle.sedscript.specs.declared.types.Command.{Command}
use Rattle.sedscript.specs.declared.types.Action.TheVariants.{File, Plain}
use Rattle.sedscript.specs.declared.types.FileUse.TheVariants.{Write}
use Rattle.sedscript.specs.declared.types.Simple.TheVariants.{Delete, LineNumber, NextLine, Print, Quit}
use Rattle.sedscript.specs.declared.types.Address.TheVariants.{Last, Line}
use Rattle.sedengine.specs.State.{MachineState, Setting}
use Rattle.sedengine.specs.Substitute.{Occurrence}
use Rattle.sedengine.specs.Select.{selects}
use Rattle.sedengine.specs.Move.{next_move, after, written, to_sink, line_to}
use Rattle.examples.proofs.ScriptWords.{always, at, from_to, unless}
use Rattle.sededit.specs.Editing.{IsOutput}
use Rattle.scripts.specs.Edited.{text_of}
use Rattle.scripts.specs.Words.{numbered_lines, odd_ones}
use Rattle.scripts.proofs.Cycles.{Goes, ends_on, between, ends_there, each_line, line_first}

-- a setting in which nothing is substituted
module _ (finds : ℕ → List ℕ → Bool) (search : ℕ → List ℕ → ℕ → Option Occurrence) (files : ℕ → List ℕ) where
  abbrev pub runs : Bool → List Command → Setting
  runs quiet commands = record {
    commands = commands;
    texts = [];
    substitutions = [];
    tables = [];
    finds = finds;
    search = search;
    quiet = quiet;
    files = files;
  }

  -- before a cycle of a script without commands, and of one with one
  abbrev none_at : List (List ℕ) → ℕ → ℕ → MachineState
  none_at lines number turns = between lines number [] false [] None turns

  abbrev one_at : List (List ℕ) → ℕ → ℕ → MachineState
  one_at lines number turns = between lines number [] false (false ∷ []) None turns

  abbrev none_ends : (quiet : Bool) (number turns : ℕ) → IsOutput (runs quiet []) (none_at [] number turns) []
  none_ends quiet number turns = ends_there (runs quiet []) number [] false [] None turns

  abbrev one_ends : (quiet : Bool) (c : Command) (number turns : ℕ) → IsOutput (runs quiet (c ∷ [])) (one_at [] number turns) []
  one_ends quiet c number turns = ends_there (runs quiet (c ∷ [])) number [] false (false ∷ []) None turns

  -- ---- no command

  empty_cycle : (number : ℕ) (line : List ℕ) (rest : List (List ℕ)) (turns : ℕ) →
      Goes (runs false []) (none_at (line ∷ rest) number turns) (none_at rest (number + 1) (turns + 1)) (line_to 0 line)
  unfolding next_move after written
  empty_cycle number line rest turns = record { moves = 5; is = refl; wrote = simp append-nil refl }

  pub empty_run : (lines : List (List ℕ)) (number turns : ℕ) → IsOutput (runs false []) (none_at lines number turns) (to_sink 0 (text_of lines))
  empty_run = each_line (runs false []) none_at (λ n ls. ls) (λ n line rest. line ∷ []) (λ n. refl) (λ n line rest. refl) (none_ends false)
      (λ n line rest turns. (turns + 1, empty_cycle n line rest turns))

  quiet_cycle : (number : ℕ) (line : List ℕ) (rest : List (List ℕ)) (turns : ℕ) →
      Goes (runs true []) (none_at (line ∷ rest) number turns) (none_at rest (number + 1) (turns + 1)) []
  unfolding next_move after written
  quiet_cycle number line rest turns = record { moves = 5; is = refl; wrote = refl }

  pub quiet_run : (lines : List (List ℕ)) (number turns : ℕ) → IsOutput (runs true []) (none_at lines number turns) []
  quiet_run = each_line (runs true []) none_at (λ n ls. []) (λ n line rest. []) (λ n. refl) (λ n line rest. refl) (none_ends true)
      (λ n line rest turns. (turns + 1, quiet_cycle n line rest turns))

  -- ---- `p`, and `p` with -n

  twice_cycle : (number : ℕ) (line : List ℕ) (rest : List (List ℕ)) (turns : ℕ) →
      Goes (runs false (always (Plain Print) ∷ [])) (one_at (line ∷ rest) number turns) (one_at rest (number + 1) (turns + 1 + 1)) (line_to 0 line ++ line_to 0 line)
  unfolding next_move after written selects
  twice_cycle number line rest turns = record { moves = 6; is = refl; wrote = simp append-nil refl }

  pub twice_run : (lines : List (List ℕ)) (number turns : ℕ) → IsOutput (runs false (always (Plain Print) ∷ [])) (one_at lines number turns) (to_sink 0 (text_of (flat_map (λ line. line ∷ line ∷ []) lines)))
  twice_run = each_line (runs false (always (Plain Print) ∷ [])) one_at (λ n ls. flat_map (λ line. line ∷ line ∷ []) ls) (λ n line rest. line ∷ line ∷ []) (λ n. refl) (λ n line rest. refl) (one_ends false (always (Plain Print)))
      (λ n line rest turns. (turns + 1 + 1, subst (Goes (runs false (always (Plain Print) ∷ [])) (one_at (line ∷ rest) n turns) (one_at rest (n + 1) (turns + 1 + 1))) (line_first line (line ∷ [])) (twice_cycle n line rest turns)))

  once_cycle : (number : ℕ) (line : List ℕ) (rest : List (List ℕ)) (turns : ℕ) →
      Goes (runs true (always (Plain Print) ∷ [])) (one_at (line ∷ rest) number turns) (one_at rest (number + 1) (turns + 1 + 1)) (line_to 0 line)
  unfolding next_move after written selects
  once_cycle number line rest turns = record { moves = 6; is = refl; wrote = simp append-nil refl }

  pub once_run : (lines : List (List ℕ)) (number turns : ℕ) → IsOutput (runs true (always (Plain Print) ∷ [])) (one_at lines number turns) (to_sink 0 (text_of lines))
  once_run = each_line (runs true (always (Plain Print) ∷ [])) one_at (λ n ls. ls) (λ n line rest. line ∷ []) (λ n. refl) (λ n line rest. refl) (one_ends true (always (Plain Print)))
      (λ n line rest turns. (turns + 1 + 1, once_cycle n line rest turns))

  -- ---- `=`

  number_cycle : (number : ℕ) (line : List ℕ) (rest : List (List ℕ)) (turns : ℕ) →
      Goes (runs false (always (Plain LineNumber) ∷ [])) (one_at (line ∷ rest) number turns) (one_at rest (number + 1) (turns + 1 + 1)) (line_to 0 (decimal (number + 1)) ++ line_to 0 line)
  unfolding next_move after written selects
  number_cycle number line rest turns = record { moves = 6; is = refl; wrote = simp append-nil refl }

  pub number_run : (lines : List (List ℕ)) (number turns : ℕ) → IsOutput (runs false (always (Plain LineNumber) ∷ [])) (one_at lines number turns) (to_sink 0 (text_of (numbered_lines (number + 1) lines)))
  number_run = each_line (runs false (always (Plain LineNumber) ∷ [])) one_at (λ n ls. numbered_lines (n + 1) ls) (λ n line rest. decimal (n + 1) ∷ line ∷ []) (λ n. refl) (λ n line rest. refl) (one_ends false (always (Plain LineNumber)))
      (λ n line rest turns. (turns + 1 + 1, subst (Goes (runs false (always (Plain LineNumber) ∷ [])) (one_at (line ∷ rest) n turns) (one_at rest (n + 1) (turns + 1 + 1))) (line_first (decimal (n + 1)) (line ∷ [])) (number_cycle n line rest turns)))

  -- ---- `$!d`, and `$p` with -n

  abbrev last_one : List ℕ → List (List ℕ) → List (List ℕ)
  last_one line [] = line ∷ []
  last_one line (next ∷ more) = []

  abbrev last_of : List (List ℕ) → List (List ℕ)
  last_of ls = drop (length ls - 1) ls

  last_more : (line : List ℕ) (rest : List (List ℕ)) → last_of (line ∷ rest) ≡ last_one line rest ++ last_of rest
  last_more line [] = refl
  last_more line (next ∷ more) = let e : suc (suc (length more)) - 1 ≡ suc (suc (length more) - 1) = omega arith in ap (λ n. drop n (line ∷ next ∷ more)) e

  delete_cycle : (number : ℕ) (line : List ℕ) (rest : List (List ℕ)) (turns : ℕ) →
      Goes (runs false (unless (at Last (Plain Delete)) ∷ [])) (one_at (line ∷ rest) number turns) (one_at rest (number + 1) (turns + 1 + 1)) (to_sink 0 (text_of (last_one line rest)))
  unfolding next_move after written selects
  delete_cycle number line [] turns = record { moves = 6; is = refl; wrote = simp append-nil refl }
  delete_cycle number line (next ∷ more) turns = record { moves = 3; is = refl; wrote = refl }

  pub delete_run : (lines : List (List ℕ)) (number turns : ℕ) → IsOutput (runs false (unless (at Last (Plain Delete)) ∷ [])) (one_at lines number turns) (to_sink 0 (text_of (last_of lines)))
  delete_run = each_line (runs false (unless (at Last (Plain Delete)) ∷ [])) one_at (λ n ls. last_of ls) (λ n line rest. last_one line rest) (λ n. refl) (λ n line rest. last_more line rest) (one_ends false (unless (at Last (Plain Delete))))
      (λ n line rest turns. (turns + 1 + 1, delete_cycle n line rest turns))

  print_cycle : (number : ℕ) (line : List ℕ) (rest : List (List ℕ)) (turns : ℕ) →
      Goes (runs true (at Last (Plain Print) ∷ [])) (one_at (line ∷ rest) number turns) (one_at rest (number + 1) (turns + 1 + 1)) (to_sink 0 (text_of (last_one line rest)))
  unfolding next_move after written selects
  print_cycle number line [] turns = record { moves = 6; is = refl; wrote = simp append-nil refl }
  print_cycle number line (next ∷ more) turns = record { moves = 6; is = refl; wrote = refl }

  pub print_run : (lines : List (List ℕ)) (number turns : ℕ) → IsOutput (runs true (at Last (Plain Print) ∷ [])) (one_at lines number turns) (to_sink 0 (text_of (last_of lines)))
  print_run = each_line (runs true (at Last (Plain Print) ∷ [])) one_at (λ n ls. last_of ls) (λ n line rest. last_one line rest) (λ n. refl) (λ n line rest. last_more line rest) (one_ends true (at Last (Plain Print)))
      (λ n line rest turns. (turns + 1 + 1, print_cycle n line rest turns))

  -- ---- `Nq`

  is_number : (n m : ℕ) → n ≡ m → nat_eq n m ≡ true
  is_number n m h = grind (arith, nat_tests)

  other_number : (n m : ℕ) → m < n → nat_eq n m ≡ false
  other_number n m h = grind (arith, nat_tests)

  later_number : (n m : ℕ) → n < m → nat_eq n m ≡ false
  later_number n m h = grind (arith, nat_tests)

  quit_there : (n number : ℕ) (line : List ℕ) (rest : List (List ℕ)) (turns : ℕ) → nat_eq n (number + 1) ≡ true →
      IsOutput (runs false (at (Line n) (Plain Quit) ∷ [])) (one_at (line ∷ rest) number turns) (line_to 0 line)
  unfolding next_move after written selects
  quit_there n number line rest turns e = record { moves = 4; ended = rw e refl; wrote = rw e (simp append-nil refl) }

  quit_later : (n number : ℕ) (line : List ℕ) (rest : List (List ℕ)) (turns : ℕ) → nat_eq n (number + 1) ≡ false →
      Goes (runs false (at (Line n) (Plain Quit) ∷ [])) (one_at (line ∷ rest) number turns) (one_at rest (number + 1) (turns + 1 + 1)) (line_to 0 line)
  unfolding next_move after written selects
  quit_later n number line rest turns e = record { moves = 6; is = rw e refl; wrote = rw e (simp append-nil refl) }

  pub quit_run : (n k : ℕ) (lines : List (List ℕ)) (number turns : ℕ) → n ≡ number + suc k →
      IsOutput (runs false (at (Line n) (Plain Quit) ∷ [])) (one_at lines number turns) (to_sink 0 (text_of (take (suc k) lines)))
  quit_run n k [] number turns e = one_ends false (at (Line n) (Plain Quit)) number turns
  quit_run n zero (line ∷ rest) number turns e = quit_there n number line rest turns (is_number n (number + 1) (omega arith))
  quit_run n (suc k) (line ∷ rest) number turns e =
      subst (λ (w : List (ℕ × ℕ)). IsOutput (runs false (at (Line n) (Plain Quit) ∷ [])) (one_at (line ∷ rest) number turns) w) (line_first line (take (suc k) rest))
      (ends_on (quit_later n number line rest turns (other_number n (number + 1) (omega arith))) (quit_run n k rest (number + 1) (turns + 1 + 1) (omega arith)))

  -- ---- `N,Md`: before the first number, from there up to the second, and after that

  abbrev cut : ℕ → ℕ → Setting
  cut n m = runs false (from_to (Line n) (Line m) (Plain Delete) ∷ [])

  abbrev within_at : List (List ℕ) → ℕ → ℕ → MachineState
  within_at lines number turns = between lines number [] false (true ∷ []) None turns

  other_cycle : (n m number : ℕ) (line : List ℕ) (rest : List (List ℕ)) (turns : ℕ) → nat_eq n (number + 1) ≡ false →
      Goes (cut n m) (one_at (line ∷ rest) number turns) (one_at rest (number + 1) (turns + 1 + 1)) (line_to 0 line)
  unfolding next_move after written selects
  other_cycle n m number line rest turns e = record { moves = 6; is = rw e refl; wrote = rw e (simp append-nil refl) }

  first_cycle : (n m number : ℕ) (line : List ℕ) (rest : List (List ℕ)) (turns : ℕ) → nat_eq n (number + 1) ≡ true → nat_le m (number + 1) ≡ false →
      Goes (cut n m) (one_at (line ∷ rest) number turns) (within_at rest (number + 1) (turns + 1 + 1)) []
  unfolding next_move after written selects
  first_cycle n m number line rest turns e more = record { moves = 3; is = rw (e, more) refl; wrote = rw e refl }

  within_cycle : (n m number : ℕ) (line : List ℕ) (rest : List (List ℕ)) (turns : ℕ) → nat_lt (number + 1) m ≡ true →
      Goes (cut n m) (within_at (line ∷ rest) number turns) (within_at rest (number + 1) (turns + 1 + 1)) []
  unfolding next_move after written selects
  within_cycle n m number line rest turns e = record { moves = 3; is = rw e refl; wrote = rw e refl }

  end_cycle : (n m number : ℕ) (line : List ℕ) (rest : List (List ℕ)) (turns : ℕ) → nat_lt (number + 1) m ≡ false → nat_eq (number + 1) m ≡ true →
      Goes (cut n m) (within_at (line ∷ rest) number turns) (one_at rest (number + 1) (turns + 1 + 1)) []
  unfolding next_move after written selects
  end_cycle n m number line rest turns less e = record { moves = 3; is = rw (less, e) refl; wrote = rw (less, e) refl }

  is_less : (n m : ℕ) → n < m → nat_lt n m ≡ true
  is_less n m h = grind (arith, nat_tests)

  not_less : (n m : ℕ) → m ≤ n → nat_lt n m ≡ false
  not_less n m h = grind (arith, nat_tests)

  not_most : (n m : ℕ) → m < n → nat_le n m ≡ false
  not_most n m h = grind (arith, nat_tests)

  after_run : (n m : ℕ) (lines : List (List ℕ)) (number turns : ℕ) → n ≤ number → IsOutput (cut n m) (one_at lines number turns) (to_sink 0 (text_of lines))
  after_run n m [] number turns h = one_ends false (from_to (Line n) (Line m) (Plain Delete)) number turns
  after_run n m (line ∷ rest) number turns h =
      subst (λ (w : List (ℕ × ℕ)). IsOutput (cut n m) (one_at (line ∷ rest) number turns) w) (line_first line rest)
      (ends_on (other_cycle n m number line rest turns (later_number n (number + 1) (omega arith))) (after_run n m rest (number + 1) (turns + 1 + 1) (omega arith)))

  within_run : (n m k : ℕ) (lines : List (List ℕ)) (number turns : ℕ) → n ≤ number → m ≡ number + suc k →
      IsOutput (cut n m) (within_at lines number turns) (to_sink 0 (text_of (drop (suc k) lines)))
  within_run n m k [] number turns h e = ends_there (cut n m) number [] false (true ∷ []) None turns
  within_run n m zero (line ∷ rest) number turns h e =
      ends_on (end_cycle n m number line rest turns (not_less (number + 1) m (omega arith)) (is_number (number + 1) m (omega arith))) (after_run n m rest (number + 1) (turns + 1 + 1) (omega arith))
  within_run n m (suc k) (line ∷ rest) number turns h e =
      ends_on (within_cycle n m number line rest turns (is_less (number + 1) m (omega arith))) (within_run n m k rest (number + 1) (turns + 1 + 1) (omega arith) (omega arith))

  pub cut_run : (n m k d : ℕ) (lines : List (List ℕ)) (number turns : ℕ) → n ≡ number + suc k → m ≡ number + suc d → k < d →
      IsOutput (cut n m) (one_at lines number turns) (to_sink 0 (text_of (take k lines ++ drop (suc d) lines)))
  cut_run n m zero d [] number turns e f less = one_ends false (from_to (Line n) (Line m) (Plain Delete)) number turns
  cut_run n m (suc k) d [] number turns e f less = one_ends false (from_to (Line n) (Line m) (Plain Delete)) number turns
  cut_run n m zero zero (line ∷ rest) number turns e f less = absurd (omega arith)
  cut_run n m zero (suc d) (line ∷ rest) number turns e f less =
      ends_on (first_cycle n m number line rest turns (is_number n (number + 1) (omega arith)) (not_most m (number + 1) (omega arith))) (within_run n m d rest (number + 1) (turns + 1 + 1) (omega arith) (omega arith))
  cut_run n m (suc k) zero (line ∷ rest) number turns e f less = absurd (omega arith)
  cut_run n m (suc k) (suc d) (line ∷ rest) number turns e f less =
      subst (λ (w : List (ℕ × ℕ)). IsOutput (cut n m) (one_at (line ∷ rest) number turns) w) (line_first line (take k rest ++ drop (suc d) rest))
      (ends_on (other_cycle n m number line rest turns (other_number n (number + 1) (omega arith))) (cut_run n m k d rest (number + 1) (turns + 1 + 1) (omega arith) (omega arith) (omega arith)))

  -- ---- `n;d`

  abbrev two_at : List (List ℕ) → ℕ → ℕ → MachineState
  two_at lines number turns = between lines number [] false (false ∷ false ∷ []) None turns

  abbrev halves : Setting
  halves = runs false (always (Plain NextLine) ∷ always (Plain Delete) ∷ [])

  half_cycle : (number : ℕ) (line next : List ℕ) (rest : List (List ℕ)) (turns : ℕ) →
      Goes halves (two_at (line ∷ next ∷ rest) number turns) (two_at rest (number + 1 + 1) (turns + 1 + 1 + 1)) (line_to 0 line)
  unfolding next_move after written selects
  half_cycle number line next rest turns = record { moves = 8; is = refl; wrote = simp append-nil refl }

  half_last : (number : ℕ) (line : List ℕ) (turns : ℕ) → IsOutput halves (two_at (line ∷ []) number turns) (line_to 0 line)
  unfolding next_move after written selects
  half_last number line turns = record { moves = 4; ended = refl; wrote = simp append-nil refl }

  pub half_run : (lines : List (List ℕ)) (number turns : ℕ) → IsOutput halves (two_at lines number turns) (to_sink 0 (text_of (odd_ones lines)))
  half_run [] number turns = ends_there halves number [] false (false ∷ false ∷ []) None turns
  half_run (line ∷ []) number turns = half_last number line turns
  half_run (line ∷ next ∷ rest) number turns =
      subst (λ (w : List (ℕ × ℕ)). IsOutput halves (two_at (line ∷ next ∷ rest) number turns) w) (line_first line (odd_ones rest))
      (ends_on (half_cycle number line next rest turns) (half_run rest (number + 1 + 1) (turns + 1 + 1 + 1)))

  -- ---- `w f`

  abbrev tees : Setting
  tees = runs false (always (File Write 1) ∷ [])

  -- each line to the first file and to the standard output
  abbrev pub twofold : List (List ℕ) → List (ℕ × ℕ)
  twofold [] = []
  twofold (line ∷ more) = (line_to 1 line ++ line_to 0 line) ++ twofold more

  tee_cycle : (number : ℕ) (line : List ℕ) (rest : List (List ℕ)) (turns : ℕ) →
      Goes tees (one_at (line ∷ rest) number turns) (one_at rest (number + 1) (turns + 1 + 1)) (line_to 1 line ++ line_to 0 line)
  unfolding next_move after written selects
  tee_cycle number line rest turns = record { moves = 6; is = refl; wrote = simp append-nil refl }

  pub tee_run : (lines : List (List ℕ)) (number turns : ℕ) → IsOutput tees (one_at lines number turns) (twofold lines)
  tee_run [] number turns = one_ends false (always (File Write 1)) number turns
  tee_run (line ∷ rest) number turns = ends_on (tee_cycle number line rest turns) (tee_run rest (number + 1) (turns + 1 + 1))
