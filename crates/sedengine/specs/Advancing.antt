-- Private to the proofs: no contract of a public item cites what is here.
-- What the machine's calls promise one another of the moves that they make.
use Rattle.std.specs.Prelude.{◌≡◌, ℕ, true, ◌+◌, ◌*◌, ◌-◌, ◌<◌, ◌≤◌, Bool, false, Option, None, Result, Ok, Err, OnOk, List, [], ◌∷◌, ◌++◌}
use Rattle.std.specs.Option.{ForSome}
use Rattle.std.specs.Borrow.{GName}
use Rattle.std.specs.Io.KnownBytes.{Keeps}
use Rattle.sedspace.specs.Stream.{Stream, left, lines_left}
use Rattle.sedacts.specs.Types.{Action}
use Rattle.sedacts.specs.declared.ends.Ended.{Ended}
use Rattle.sedscript.specs.declared.types.Action.TheVariants.{Plain}
use Rattle.sedscript.specs.declared.types.Simple.TheVariants as simple
use Rattle.sedacts.specs.State.{LimitsView, Task, do_at, MachineState, Move, Setting, GivesFiles}
use Rattle.sedacts.specs.Meters.{WereSent, SinkView}
use Rattle.sedacts.specs.Calls.{Delivers, DeliversAlone, NamesNone, ReadsAlone, ReadsLines}
use Rattle.sedacts.specs.Move.{next_move}
use Rattle.sedacts.specs.Ends.{WithinLimits, reads, LosesPartAfter, size_of}
use Rattle.sedacts.specs.Held.{SameLengths}
use Rattle.sedacts.specs.Run.{InputLeft, SameRun, RunState, at_lines, input_of, lost, run_setting}
use Rattle.sedacts.specs.Bringing.{TakesLines}
use Rattle.sedacts.specs.Steps.{HasTurn, MakesMoves, Ran, RanToEnd, reaches}

-- A state in which a command is reached with a turn left. In the state `there` the turn is taken, and the command acts.
pub record ReachesCommand (l : LimitsView) (g : Setting) (s there : MachineState) : Type 0 where
  pub fits : WithinLimits l s
  pub reaches : reaches s.tasks ≡ true
  pub turn : HasTurn l g s
  pub lines : s.lines ≡ there.lines
  pub number : s.number ≡ there.number
  pub same : SameLengths s there

-- What a call answers that makes the move o, and perhaps moves after it, from any state that has that move and reaches the
-- command that acts in the state `there`.
abbrev pub MakesMove : LimitsView → Setting → Option Move → MachineState → MachineState → SinkView → SinkView → Result Unit Ended → Type 0
MakesMove l g o there now old new r = (s : MachineState) → ReachesCommand l g s there → next_move g s ≡ o → MakesMoves l g s now old new r

-- whether a command takes a further line
abbrev pub takes_further_line : Action → Bool
takes_further_line (Plain simple.NextLine) = true
takes_further_line (Plain simple.AppendNext) = true
takes_further_line other = false

-- Moves were made that took these lines, and then the end came. What is gone after the lines is a part of one.
pub record Halted {R : Type 0} (remaining : R → Option (List ℕ)) (old new : Stream R) (l : LimitsView) (g : Setting)
    (s : MachineState) (e : RunState) (sinks sinks' : SinkView) (end : Ended) : Type 0 where
  pub rest : List (List ℕ)
  pub stopped : RanToEnd l g s (at_lines e rest) sinks sinks' end
  pub lines : List (List ℕ)
  pub are : s.lines ≡ lines ++ rest
  pub bytes : LosesPartAfter (left remaining old) (left remaining new) (size_of lines) (lost l end)

-- What a call that makes moves from the state s and may take lines answers, where ls are left before.
abbrev pub StepsFrom : {R : Type 0} → (R → Option (List ℕ)) → Stream R → Stream R → List (List ℕ) → LimitsView → Setting →
    MachineState → RunState → SinkView → SinkView → Result Unit Ended → Type 0
StepsFrom remaining old new ls l g s e' sinks sinks' (Ok u) =
    (rest : List (List ℕ)) × TakesLines remaining old new ls rest × Ran l g s (at_lines e' rest) sinks sinks'
StepsFrom remaining old new ls l g s e' sinks sinks' (Err end) = Halted remaining old new l g s e' sinks sinks' end

-- the same from the state of an engine
abbrev pub StepsOf : {R : Type 0} → (R → Option (List ℕ)) → Stream R → Stream R → List (List ℕ) → LimitsView → Setting →
    RunState → RunState → SinkView → SinkView → Result Unit Ended → Type 0
StepsOf remaining old new ls l g e e' sinks sinks' r = StepsFrom remaining old new ls l g (at_lines e ls) e' sinks sinks' r

-- What a call answers that makes the move o, perhaps moves after it, and may take lines, from any state that has that move and
-- reaches the command that acts in the state `there`; `asks` says whether that command asks if a line is left.
abbrev pub PerformsSteps : {R : Type 0} → (R → Option (List ℕ)) → Stream R → Stream R → List (List ℕ) → LimitsView →
    Setting → Option Move → Bool → MachineState → RunState → SinkView → SinkView → Result Unit Ended → Type 0
PerformsSteps remaining old new ls l g o asks there e' sinks sinks' r =
    (s : MachineState) → ReachesCommand l g s there → (asks ≡ true → reads g s.tasks ≡ true) → next_move g s ≡ o →
    StepsFrom remaining old new ls l g s e' sinks sinks' r

-- A number that falls with each move: the turns left, and then what the tasks may do without one.
abbrev pub cost : Task → ℕ
cost (do_at k) = 2
cost other = 1

abbrev pub costs : List Task → ℕ
costs [] = 0
costs (t ∷ ts) = cost t + costs ts

abbrev pub weight : RunState → ℕ
weight e = 16 * (e.limits.turns - e.state.turns) + costs e.state.tasks

-- How a call of the machine leaves what it was given, besides its moves: the sinks as its answer says, the input without a
-- failure, the run as it is, and the texts.
pub record LeavesGiven {O T : Type 0} (tally : O → SinkView) (count : O → ℕ) (text : T → ℕ → Option (List ℕ))
    (old new : RunState) (outputs outputs' : O) (texts texts' : T) (result : Result Unit Ended) : Type 0 where
  pub devices : DeliversAlone tally count outputs outputs' result
  pub same : SameRun old new
  pub kept : (j : ℕ) → Keeps (text texts j) (text texts' j)

-- The same of a call that may take lines.
pub record LeavesLines {R O T : Type 0} (remaining : R → Option (List ℕ)) (failures : R → ℕ) (reference : R → List GName)
    (tally : O → SinkView) (count : O → ℕ) (text : T → ℕ → Option (List ℕ)) (old new : RunState) (lines lines' : Stream R)
    (outputs outputs' : O) (texts texts' : T) (result : Result Unit Ended) : Type 0 where
  pub input : ReadsLines remaining failures reference lines lines' result
  pub output : Delivers tally count outputs outputs' result
  pub same : SameRun old new
  pub kept : (j : ℕ) → Keeps (text texts j) (text texts' j)

-- What a call answers that does what a command does where it applies, if it takes no line: the move that `made` makes of a state.
-- It leads to little more work without a turn.
pub record ActsHere {O T : Type 0} (tally : O → SinkView) (count : O → ℕ) (text : T → ℕ → Option (List ℕ))
    (made : Setting → MachineState → Option Move) (old new : RunState) (outputs outputs' : O) (texts texts' : T)
    (result : Result Unit Ended) : Type 0 where
  pub acts : (files : ℕ → List ℕ) → GivesFiles (text texts) files → (ls : List (List ℕ)) →
      MakesMove old.limits (run_setting old files) (made (run_setting old files) (at_lines old ls)) (at_lines old ls)
      (at_lines new ls) (tally outputs) (tally outputs') result
  pub falls : weight new ≤ weight old + 8
  pub leaves : LeavesGiven tally count text old new outputs outputs' texts texts' result

-- The same of a call that reads no text.
pub record ActsAlone {O : Type 0} (tally : O → SinkView) (count : O → ℕ) (made : Setting → MachineState → Option Move)
    (old new : RunState) (outputs outputs' : O) (result : Result Unit Ended) : Type 0 where
  pub acts : (files : ℕ → List ℕ) (ls : List (List ℕ)) → MakesMove old.limits (run_setting old files)
      (made (run_setting old files) (at_lines old ls)) (at_lines old ls) (at_lines new ls) (tally outputs) (tally outputs') result
  pub devices : DeliversAlone tally count outputs outputs' result
  pub falls : weight new ≤ weight old
  pub same : SameRun old new

-- The same of a call that may take lines; `asks` says whether the command asks if a line is left.
pub record ActsLines {R O T : Type 0} (remaining : R → Option (List ℕ)) (failures : R → ℕ) (reference : R → List GName)
    (tally : O → SinkView) (count : O → ℕ) (text : T → ℕ → Option (List ℕ)) (made : Setting → MachineState → Option Move)
    (asks : Bool) (old new : RunState) (lines lines' : Stream R) (outputs outputs' : O) (texts texts' : T)
    (result : Result Unit Ended) : Type 0 where
  pub acts : lines.fault ≡ None → ForSome (lines_left remaining lines) (λ ls.
      (files : ℕ → List ℕ) → GivesFiles (text texts) files →
      PerformsSteps remaining lines lines' ls old.limits (run_setting old files) (made (run_setting old files) (at_lines old ls)) asks
      (at_lines old ls) new (tally outputs) (tally outputs') result)
  pub falls : weight new ≤ weight old + 8
  pub leaves : LeavesLines remaining failures reference tally count text old new lines lines' outputs outputs' texts texts' result

-- What a call answers that makes moves, and may take lines. Where the run goes on there is less to do.
pub record Advances {R O T : Type 0} (remaining : R → Option (List ℕ)) (failures : R → ℕ) (reference : R → List GName)
    (tally : O → SinkView) (count : O → ℕ) (text : T → ℕ → Option (List ℕ)) (old new : RunState)
    (lines lines' : Stream R) (outputs outputs' : O) (texts texts' : T) (result : Result Unit Ended) : Type 0 where
  pub steps : lines.fault ≡ None → ForSome (lines_left remaining lines) (λ ls.
      (files : ℕ → List ℕ) → GivesFiles (text texts) files →
      StepsOf remaining lines lines' ls old.limits (run_setting old files) old new (tally outputs) (tally outputs') result)
  pub falls : OnOk result (weight new < weight old)
  pub leaves : LeavesLines remaining failures reference tally count text old new lines lines' outputs outputs' texts texts' result

-- The same of a call that takes no line.
pub record AdvancesHere {O T : Type 0} (tally : O → SinkView) (count : O → ℕ) (text : T → ℕ → Option (List ℕ))
    (old new : RunState) (outputs outputs' : O) (texts texts' : T) (result : Result Unit Ended) : Type 0 where
  pub moves : (files : ℕ → List ℕ) → GivesFiles (text texts) files → (ls : List (List ℕ)) →
      MakesMoves old.limits (run_setting old files) (at_lines old ls) (at_lines new ls) (tally outputs) (tally outputs') result
  pub falls : OnOk result (weight new < weight old)
  pub leaves : LeavesGiven tally count text old new outputs outputs' texts texts' result

-- The same of a call that may take lines, and writes nothing.
pub record AdvancesReading {R : Type 0} (remaining : R → Option (List ℕ)) (failures : R → ℕ) (reference : R → List GName)
    (old new : RunState) (lines lines' : Stream R) (result : Result Unit Ended) : Type 0 where
  pub steps : lines.fault ≡ None → ForSome (lines_left remaining lines) (λ ls. (files : ℕ → List ℕ) (sinks : SinkView) →
      StepsOf remaining lines lines' ls old.limits (run_setting old files) old new sinks sinks result)
  pub reads : ReadsAlone remaining failures reference lines lines' result
  pub falls : OnOk result (weight new < weight old)
  pub same : SameRun old new

-- The same of a call that is given no device.
pub record AdvancesAlone (old new : RunState) (result : Result Unit Ended) : Type 0 where
  pub moves : (files : ℕ → List ℕ) (ls : List (List ℕ)) (sinks : SinkView) →
      MakesMoves old.limits (run_setting old files) (at_lines old ls) (at_lines new ls) sinks sinks result
  pub devices : NamesNone result
  pub falls : OnOk result (weight new < weight old)
  pub same : SameRun old new

-- What a call answers that makes moves to the end of a cycle or of the run. `comes` says what they come to: from a setting and a
-- state, with an output, between what was still to come before and after them.
pub record RunsOn {R O T : Type 0} (remaining : R → Option (List ℕ)) (failures : R → ℕ) (reference : R → List GName)
    (tally : O → SinkView) (count : O → ℕ) (text : T → ℕ → Option (List ℕ))
    (comes : Setting → MachineState → List (ℕ × ℕ) → InputLeft → InputLeft → Type 0) (old new : RunState)
    (lines lines' : Stream R) (outputs outputs' : O) (texts texts' : T) (result : Result Unit Ended) : Type 0 where
  pub runs : lines.fault ≡ None → ForSome (lines_left remaining lines) (λ ls.
      (files : ℕ → List ℕ) → GivesFiles (text texts) files → (out : List (ℕ × ℕ)) × WereSent (tally outputs) (tally outputs') out
      × comes (run_setting old files) (at_lines old ls) out (input_of remaining lines) (input_of remaining lines'))
  pub leaves : LeavesLines remaining failures reference tally count text old new lines lines' outputs outputs' texts texts' result
