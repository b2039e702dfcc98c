-- Private to the proofs: no contract of a public item cites what is here.
-- What the machine's calls that take the next line promise.
use Rattle.std.specs.Prelude.{◌≡◌, ℕ, false, ◌≤◌, ◌+◌, Option, None, Result, List, [], ◌∷◌, ◌++◌, if◌then◌else◌}
use Rattle.std.specs.Option.{ForSome}
use Rattle.std.specs.Borrow.{GName}
use Rattle.sedspace.specs.Stream.{Stream, lines_left}
use Rattle.sedspace.specs.declared.lines.Got.{Got}
use Rattle.sedspace.specs.declared.lines.Got.TheVariants.{Line, End}
use Rattle.sedacts.specs.State.{Task, print_pattern, empty_pattern, flush, fetch, MachineState, Move}
use Rattle.sedacts.specs.Meters.{SinkView}
use Rattle.sedacts.specs.Calls.{ReadsAlone}
use Rattle.sedacts.specs.Move.{none_left, quietly, then_do}
use Rattle.sedacts.specs.Run.{RunState, SameRun, at_lines, run_setting}
use Rattle.sedengine.specs.Advancing.{StepsFrom, weight}
use Rattle.sedacts.specs.declared.ends.Ended.{Ended}

-- What a call answers that does these tasks, of which the last takes a line, before those of the engine. It writes nothing.
pub record Fetches {R : Type 0} (remaining : R → Option (List ℕ)) (failures : R → ℕ) (reference : R → List GName)
    (tasks : List Task) (old new : RunState) (lines lines' : Stream R) (result : Result Unit Ended) : Type 0 where
  pub steps : lines.fault ≡ None → ForSome (lines_left remaining lines) (λ ls. (files : ℕ → List ℕ) (sinks : SinkView) →
      StepsFrom remaining lines lines' ls old.limits (run_setting old files)
      (then_do (tasks ++ old.state.tasks) (at_lines old ls)) new sinks sinks result)
  pub reads : ReadsAlone remaining failures reference lines lines' result
  pub falls : weight new ≤ weight old
  pub same : SameRun old new

-- the engine that goes on with the line that was brought, or whose run is over where there was none; its pattern space
-- has the line already
abbrev pub brought : RunState → Got → RunState
brought e Line = record e { state = record e.state { number = e.state.number + 1; replaced = false } }
brought e End = record e { state = record e.state { tasks = [] } }

-- what `n` does: the next line is fetched, or the run goes to its end where there is none
abbrev pub next_line : MachineState → Option Move
next_line s = quietly (
    if none_left s.lines then then_do (print_pattern ∷ flush ∷ []) s
    else then_do (print_pattern ∷ flush ∷ empty_pattern ∷ fetch ∷ s.tasks) s)
