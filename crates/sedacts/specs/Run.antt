-- The engine as its callers see it, and how a run of it ends (this project's own).
use Rattle.std.specs.Prelude.{◌≡◌, ℕ, ◌+◌, ◌<◌, Bool, true, false, Option, Some, None, Result, Ok, Err, List, ◌∷◌, length, get_or, IfSome}
use Rattle.sedscript.specs.Program.{Program}
use Rattle.sedspace.specs.Stream.{Stream, left}
use Rattle.sedacts.specs.State.{LimitsView, Task, begin, rebegin, MachineState, Setting, setting_of}
use Rattle.sedacts.specs.Move.{after, written}
use Rattle.sedacts.specs.Ends.{bytes_of_sink, GainedWithin, SourceAtEnd, StaysWithin, IsCause, named_sink, BreaksInLine, LosesPartAfter, size_of}
use Rattle.sedacts.specs.Held.{HoldsAt}
use Rattle.sedacts.specs.Types.{Ended, PatternFull, InputBroken}
use Rattle.sedacts.specs.declared.ends.Progress.{Progress}
use Rattle.sedacts.specs.DevicesAfter.{TakesInput, more_at}
use Rattle.sedacts.specs.declared.ends.Progress.TheVariants as progress

-- an engine: its script, its limits, its state without the lines, how many bytes each sink has gained since it was opened,
-- which is counted where a limit is set, and the end that its run came to
pub record RunState : Type 0 where
  pub script : Program
  pub limits : LimitsView
  pub state : MachineState
  pub sent : List ℕ
  pub ended : Option Ended

-- how many bytes a sink has gained since the engine was opened, where that is counted
abbrev pub sent_to : RunState → ℕ → ℕ
sent_to e k = get_or e.sent k 0

-- The sinks gained these bytes in a call that led from the engine e to the engine e', and e' has counted them.
pub record Sends (e e' : RunState) (old new : ℕ → Option (List ℕ)) (r : Result Unit Ended) (out : List (ℕ × ℕ)) : Type 0 where
  pub gains : GainedWithin e.limits.output (sent_to e) old new r out
  pub counts : IfSome e.limits.output (λ most. (k : ℕ) → sent_to e' k ≡ sent_to e k + length (bytes_of_sink k out))

-- its state with the lines that are left
abbrev pub at_lines : RunState → List (List ℕ) → MachineState
at_lines e ls = record e.state { lines = ls }

-- what doesn't change in its run
abbrev pub run_setting : RunState → (ℕ → List ℕ) → Setting
run_setting e files = setting_of e.script files

-- how many bytes of a line that isn't given may be gone at an end
abbrev pub lost : LimitsView → Ended → ℕ
lost l (PatternFull n) = l.space
lost l InputBroken = l.space
lost l other = 0

-- what is still to come: from the source, and in all, with the bytes that are ahead
pub record InputLeft : Type 0 where
  pub source : Option (List ℕ)
  pub all : Option (List ℕ)

-- what is still to come by a reader of lines, where the bytes of its source are known
abbrev pub input_of : {R : Type 0} → (R → Option (List ℕ)) → Stream R → InputLeft
input_of remaining lines = record { source = remaining lines.source; all = left remaining lines }

-- The first t moves took lines: of all that was still to come, the bytes of these and a part of the next line are gone, of
-- at most `lost` bytes. So a series of calls takes from the source at most its lines, what is lost, and what is ahead at its end.
pub record TakesLeft (g : Setting) (s : MachineState) (old new : InputLeft) (lost more : ℕ) (t : ℕ) : Type 0 where
  pub input : TakesInput g s old.source new.source more t
  pub all : LosesPartAfter old.all new.all (size_of input.lines) lost

-- A run from the state s came to this end: after some moves, which took lines and led to the state `now`. `out` is its
-- output, and `old` and `new` say what was still to come. No whole line is lost where the source failed, not even one that
-- was ahead.
pub record CameToEnd (l : LimitsView) (g : Setting) (s : MachineState) (out : List (ℕ × ℕ)) (old new : InputLeft) (now : MachineState)
    (end : Ended) : Type 0 where
  pub t : ℕ
  pub cause : IsCause l g s out end t
  pub lines_taken : TakesLeft g s old new (lost l end) (more_at l end) t
  pub broken : end ≡ InputBroken → BreaksInLine g s old.all new.source l.space t
  pub holds : HoldsAt g s t now (named_sink end)

-- whether a cycle starts with the first task
abbrev pub starts_cycle : List Task → Bool
starts_cycle (begin ∷ rest) = true
starts_cycle (rebegin ∷ rest) = true
starts_cycle other = false

-- no cycle starts between the first of t moves and the last
abbrev pub InOneCycle : Setting → MachineState → ℕ → Type 0
InOneCycle g s t = (k : ℕ) → 0 < k → k < t → starts_cycle (after g s k).tasks ≡ false

-- One cycle was made from the state s: at least one move, up to where the next cycle starts.
pub record Cycled (l : LimitsView) (g : Setting) (s : MachineState) (out : List (ℕ × ℕ)) (old new : InputLeft) (now : MachineState) : Type 0 where
  pub t : ℕ
  pub some : 0 < t
  pub is : after g s t ≡ now
  pub next : starts_cycle now.tasks ≡ true
  pub one : InOneCycle g s t
  pub within : StaysWithin l g s t
  pub wrote : written g s t ≡ out
  pub lines_taken : TakesLeft g s old new 0 l.look t

-- The end came within one cycle.
pub record EndingInCycle (l : LimitsView) (g : Setting) (s : MachineState) (out : List (ℕ × ℕ)) (old new : InputLeft) (now : MachineState)
    (end : Ended) : Type 0 where
  pub ending : CameToEnd l g s out old new now end
  pub one : InOneCycle g s (ending.t + 1)

-- What one cycle answers; `left` are the lines left after it.
abbrev pub Cycles : LimitsView → Setting → MachineState → List (ℕ × ℕ) → InputLeft → InputLeft → RunState → Option (List (List ℕ)) →
    Progress → Type 0
Cycles l g s out old new e left progress.More =
    (rest : List (List ℕ)) × (left ≡ Some rest) × Cycled l g s out old new (at_lines e rest)
Cycles l g s out old new e left (progress.Ended end) = EndingInCycle l g s out old new e.state end

-- the end that a cycle answers
abbrev pub end_answered : Progress → Option Ended
end_answered progress.More = None
end_answered (progress.Ended end) = Some end

-- what a cycle answered, in the form in which single moves answer: Ok where the run goes on
abbrev pub as_moves_answer : Progress → Result Unit Ended
as_moves_answer progress.More = Ok tt
as_moves_answer (progress.Ended end) = Err end

-- what a run leaves as it is
pub record SameRun (old new : RunState) : Type 0 where
  pub script : new.script ≡ old.script
  pub same_limits : new.limits ≡ old.limits

-- The source hasn't failed where the run goes on; at an end it has exactly where the end says so.
abbrev pub FailedSource : {T : Type 0} → ℕ → ℕ → Result T Ended → Type 0
FailedSource old new (Ok x) = new ≡ old
FailedSource old new (Err end) = SourceAtEnd old new end
