-- Private to the proofs: no contract of a public item cites what is here.
-- What the engine's calls for the queue promise one another.
use Rattle.std.specs.Prelude.{◌≡◌, ℕ, ◌<◌, ◌≤◌, ◌+◌, Option, Result, Ok, Err, OnOk, OnErr, List, [], ◌∷◌, ◌++◌, length}
use Rattle.std.specs.Io.KnownBytes.{Keeps}
use Rattle.sedacts.specs.State.{Entry, Task, flush, MachineState, GivesFiles}
use Rattle.sedacts.specs.Meters.{SinkView}
use Rattle.sedacts.specs.Move.{then_do}
use Rattle.sedacts.specs.Calls.{DeliversAlone}
use Rattle.sedacts.specs.Run.{RunState, at_lines, run_setting}
use Rattle.sedengine.specs.Advancing.{LeavesGiven, weight}
use Rattle.sedacts.specs.Steps.{MakesMoves}
use Rattle.sedengine.specs.Inside.{tasks_of}
use Rattle.sedengine.specs.declared.next_step.NextStep.{NextStep}
use Rattle.sedacts.specs.declared.ends.Ended.{Ended}
use Rattle.sedacts.specs.declared.ends.Ended.TheVariants.{QueueFull}

-- the state with a further entry in its queue
abbrev pub queueing : Entry → MachineState → MachineState
queueing entry s = record s { queue = s.queue ++ entry ∷ [] }

-- the engine with a further entry in its queue
abbrev pub queued_more : RunState → Entry → RunState
queued_more e entry = record e { state = record e.state { queue = e.state.queue ++ entry ∷ [] } }

-- An entry is put into the queue, or there is no room for it and the engine stays.
abbrev pub QueuesOrFull : RunState → RunState → Entry → Result Unit Ended → Type 0
QueuesOrFull old new entry (Ok u) = (new ≡ queued_more old entry) × (length old.state.queue < old.limits.queue)
QueuesOrFull old new entry (Err (QueueFull n)) =
    (new ≡ old) × (n ≡ old.state.number) × (length old.state.queue ≡ old.limits.queue)
QueuesOrFull old new entry (Err other) = ⊥

-- the engine after so many turns
abbrev pub with_turns : RunState → ℕ → RunState
with_turns e turns = record e { state = record e.state { turns = turns } }

-- the engine whose queue was written, after so many turns
abbrev pub flushed : RunState → ℕ → RunState
flushed e turns = record e { state = record e.state { queue = []; turns = turns } }

-- What a call answers that does these tasks, of which the last writes the queue, whatever is to be done after them. It takes
-- turns, empties the queue where the run goes on, and changes nothing else of the engine.
pub record WritesQueue {O T : Type 0} (tally : O → SinkView) (count : O → ℕ) (text : T → ℕ → Option (List ℕ))
    (tasks : List Task) (old new : RunState) (outputs outputs' : O) (texts texts' : T) (result : Result Unit Ended) : Type 0 where
  pub moves : (files : ℕ → List ℕ) → GivesFiles (text texts) files → (ls : List (List ℕ)) (rest : List Task) →
      MakesMoves old.limits (run_setting old files) (then_do (tasks ++ rest) (at_lines old ls)) (then_do rest (at_lines new ls))
      (tally outputs) (tally outputs') result
  pub ok : OnOk result (new ≡ flushed old new.state.turns)
  pub err : OnErr result (new ≡ with_turns old new.state.turns)
  pub later : old.state.turns ≤ new.state.turns
  pub devices : DeliversAlone tally count outputs outputs' result
  pub kept : (j : ℕ) → Keeps (text texts j) (text texts' j)

-- What a call answers that writes the queue and then goes on at this place. It leads to little more work without a turn.
pub record EndsCycle {O T : Type 0} (tally : O → SinkView) (count : O → ℕ) (text : T → ℕ → Option (List ℕ))
    (next_step : NextStep) (old new : RunState) (outputs outputs' : O) (texts texts' : T) (result : Result Unit Ended) : Type 0 where
  pub moves : (files : ℕ → List ℕ) → GivesFiles (text texts) files → (ls : List (List ℕ)) →
      MakesMoves old.limits (run_setting old files) (then_do (flush ∷ tasks_of next_step) (at_lines old ls)) (at_lines new ls)
      (tally outputs) (tally outputs') result
  pub falls : weight new ≤ weight old + 8
  pub leaves : LeavesGiven tally count text old new outputs outputs' texts texts' result
