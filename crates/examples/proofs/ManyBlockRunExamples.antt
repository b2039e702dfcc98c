-- Examples of runs of scripts of as many blocks as one likes, each within the one before it: each
-- opening brace takes a turn.
use Rattle.std.proofs.Common.{◌≡◌, ℕ, zero, suc, ◌+◌, ◌-◌, ◌<◌, ◌≤◌, Bool, true, false, List, [], ◌∷◌, ◌++◌, Option, Some, None, refl, sym, ap, ◌∙◌, subst, arith}
use Rattle.std.specs.Prelude.{codes, leb, map, replicate, slice_get, slice_index_or, slice_set}
use Rattle.std.proofs.lemmas.Bool.{le-leb}
use Rattle.sedre.specs.declared.types.Kind.TheVariants.{Basic}
use Rattle.sedscript.specs.declared.types.Action.TheVariants.{Block}
use Rattle.sedscript.specs.declared.types.Command.{Command}
use Rattle.sedspace.specs.Lines.{split_lines}
use Rattle.sedengine.specs.Ends.{RanWhole, WithinLimits}
use Rattle.sedengine.specs.Move.{after, next_move, start, to_sink, written}
use Rattle.sedengine.specs.State.{setting_of, do_at, MachineState, Move, Setting}
use Rattle.sedengine.specs.Select.{selects}
use Rattle.sedengine.specs.Types.{Ended, Done, TurnsSpent}
use Rattle.examples.proofs.ComputedEnds.{all_fit, whole_after, whole_first, stops_whole, within_so, StopsBy}
use Rattle.examples.proofs.ComputedRun.{course, plain, no_files}
use Rattle.examples.proofs.ManyBlocks.{blocks, program, means}
use Rattle.examples.proofs.ScriptWords.{always}
use Rattle.examples.proofs.LimitWords.{turns}

abbrev input : List ℕ
input = codes "a\n"

abbrev setting : ℕ → Setting
setting n = setting_of (program 65536 n) no_files

-- before a command, where so many turns were taken
abbrev before : (ranges : List Bool) (k taken : ℕ) → MachineState
before ranges k taken = record {
  lines = [];
  number = 1;
  pattern = codes "a";
  hold = [];
  replaced = false;
  queue = [];
  ranges = ranges;
  used = None;
  tasks = do_at k ∷ [];
  turns = taken;
}

fits : (ranges : List Bool) (k taken most : ℕ) → taken ≤ most → WithinLimits (turns most) (before ranges k taken)
fits ranges k taken most few = record { pattern = omega arith; hold = omega arith; queue = omega arith; turns = few }

-- ---- the moves

command_there : (n k : ℕ) (c : Command) → k < n → slice_get (replicate n c) k ≡ Some c
command_there zero k c below = absurd (omega arith)
command_there (suc n) zero c below = refl
command_there (suc n) (suc k) c below = command_there n k c (omega arith)

none_there : (n : ℕ) (c : Command) → slice_get (replicate n c) n ≡ None
none_there zero c = refl
none_there (suc n) c = none_there n c

enters : (n k taken : ℕ) (ranges : List Bool) → k < n →
    next_move (setting n) (before ranges k taken)
    ≡ Some (record { next = before (slice_set ranges k (slice_index_or ranges k false)) (k + 1) (taken + 1); writes = [] })
unfolding next_move selects
enters n k taken ranges below = rw (command_there n k (always (Block n)) below) refl

-- a run comes to an end, after some moves
abbrev Comes : (most n : ℕ) → MachineState → Ended → List (ℕ × ℕ) → Type 0
Comes most n s end out = (t : ℕ) × RanWhole (turns most) (setting n) s out end t

-- so many blocks are entered
through : (most n j k taken to later : ℕ) (ranges : List Bool) (end : Ended) (out : List (ℕ × ℕ)) → k + j ≡ to → taken + j ≡ later → to ≤ n → later ≤ most →
    ((ranges : List Bool) → Comes most n (before ranges to later) end out) → Comes most n (before ranges k taken) end out
through most n zero k taken to later ranges end out e f within few on =
    let place : to ≡ k = omega (arith, e) in
    let same : later ≡ taken = omega (arith, f) in
    subst (λ (x : ℕ). Comes most n (before ranges k x) end out) same (subst (λ (x : ℕ). Comes most n (before ranges x later) end out) place (on ranges))
through most n (suc j) k taken to later ranges end out e f within few on =
    let rest = through most n j (k + 1) (taken + 1) to later (slice_set ranges k (slice_index_or ranges k false)) end out (omega (arith, e)) (omega (arith, f)) within few on in
    (suc rest.0, whole_first (enters n k taken ranges (omega (arith, e, within))) (fits ranges k taken most (omega (arith, f, few))) rest.1)

-- after the last of them the line is written
finishes : (most n taken : ℕ) (ranges : List Bool) → taken ≤ most → RanWhole (turns most) (setting n) (before ranges n taken) (to_sink 0 input) Done 5
unfolding course next_move selects all_fit
finishes most n taken ranges few =
    let none : slice_get (replicate n (always (Block n))) n ≡ None = none_there n (always (Block n)) in
    let so : leb taken most ≡ true = le-leb taken most few in
    whole_after 5 (rw none refl) (rw none refl) (rw (none, so) refl)

same_turns : (a b : Move) → ◌≡◌ {A = Option Move} (Some a) (Some b) → a.next.turns ≡ b.next.turns
same_turns a b e = let same : a ≡ b = cc in ap (λ (m : Move). m.next.turns) same

one_more : (n k taken : ℕ) (ranges : List Bool) → k < n → (m : Move) → next_move (setting n) (before ranges k taken) ≡ Some m → taken < m.next.turns
one_more n k taken ranges below m is = omega (arith, same_turns m _ (sym is ∙ enters n k taken ranges below))

-- where no turn is left, it isn't
spent : (n k taken : ℕ) (ranges : List Bool) → k < n → RanWhole (turns taken) (setting n) (before ranges k taken) [] TurnsSpent 0
unfolding after written all_fit
spent n k taken ranges below =
    let so : leb taken taken ≡ true = le-leb taken taken (omega arith) in
    record { within = within_so (turns taken) (setting n) 0 (before ranges k taken) (rw so refl); wrote = refl; cause = (refl, (λ none. cc), one_more n k taken ranges below) }

abbrev begins_at : ℕ → MachineState
begins_at n = start (program 65536 n).commands (split_lines input)

begins_first : (n : ℕ) → next_move (setting n) (begins_at n) ≡ Some (record { next = before (map (λ _. false) (program 65536 n).commands) 0 1; writes = [] })
unfolding next_move split_lines
begins_first n = refl

fits_first : (most n : ℕ) → WithinLimits (turns most) (begins_at n)
fits_first most n = record { pattern = omega arith; hold = omega arith; queue = omega arith; turns = omega arith }

whole : (most n : ℕ) (end : Ended) (out : List (ℕ × ℕ)) → Comes most n (before (map (λ _. false) (program 65536 n).commands) 0 1) end out → Comes most n (begins_at n) end out
whole most n end out rest = (suc rest.0, whole_first (begins_first n) (fits_first most n) rest.1)

-- With a turn for the line and one for each block the line is written.
with_turns : (most n : ℕ) → n + 1 ≤ most → StopsBy (turns most) Basic plain no_files (blocks n) input Done (to_sink 0 input)
with_turns most n enough = record {
  program = program 65536 n;
  meant = means Basic 65536 n;
  is =
      stops_whole
      (whole most n Done (to_sink 0 input)
      (through most n n 0 1 n (n + 1) (map (λ _. false) (program 65536 n).commands) Done (to_sink 0 input) (omega arith) (omega arith) (omega arith) enough
      (λ ranges. (5, finishes most n (n + 1) ranges enough)))).1
      refl;
}

-- With one less nothing is.
without_turns : (n : ℕ) → 0 < n → StopsBy (turns n) Basic plain no_files (blocks n) input TurnsSpent []
without_turns n some = record {
  program = program 65536 n;
  meant = means Basic 65536 n;
  is =
      stops_whole
      (whole n n TurnsSpent []
      (through n n (n - 1) 0 1 (n - 1) n (map (λ _. false) (program 65536 n).commands) TurnsSpent [] (omega arith) (omega (arith, some)) (omega (arith, some)) (omega arith)
      (λ ranges. (0, spent n (n - 1) n ranges (omega (arith, some)))))).1
      refl;
}

-- Ten thousand of them.

enough_turns : StopsBy (turns 10001) Basic plain no_files (replicate 10000 123 ++ replicate 10000 125) (codes "a\n") Done (to_sink 0 (codes "a\n"))
enough_turns = with_turns 10001 10000 (omega arith)

one_turn_less : StopsBy (turns 10000) Basic plain no_files (replicate 10000 123 ++ replicate 10000 125) (codes "a\n") TurnsSpent []
one_turn_less = without_turns 10000 (omega arith)
