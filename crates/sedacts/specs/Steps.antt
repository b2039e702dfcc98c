-- Private to the proofs: no contract that `sedengine` makes public cites what is here.
-- Moves that were made, and the end that came after them.
use Rattle.std.specs.Prelude.{◌≡◌, ℕ, true, ◌+◌, ◌<◌, Bool, false, Option, Some, None, Result, Ok, Err, List, [], ◌∷◌, is_some, length, not, slice_get, ◌≤◌}
use Rattle.std.specs.Option.{MatchOption, option_map_or}
use Rattle.sedacts.specs.Types.{Command, Action, Ended, Done, HoldFull, InputBroken, NoPrevious, PatternFull, QueueFull, TurnsSpent}
use Rattle.sedacts.specs.State.{LimitsView, Task, begin, rebegin, do_at, print_pattern, empty_pattern, flush, copy, fetch, join, MachineState, Move, Setting, Entry, GivesFiles}
use Rattle.sedacts.specs.Meters.{WereSent, SinkView}
use Rattle.sedacts.specs.Move.{next_move, after, none_left, written}
use Rattle.sedacts.specs.Ends.{StaysWithin, IsCause, named_sink, reads, RanWhole, BrokenOff, WithinLimits}
use Rattle.sedacts.specs.Held.{HoldsAt, SameLengths}
use Rattle.sedacts.specs.Run.{InOneCycle}
use Rattle.std.specs.Io.KnownBytes.{Keeps}
use Rattle.sedspace.specs.Spaces.{SpaceView}
use Rattle.sedacts.specs.Calls.{DeliversAlone}

-- a state that has no move stays, and writes nothing
abbrev pub next_or_stay : MachineState → Option Move → MachineState
next_or_stay s o = option_map_or (λ m. m.next) o s

abbrev pub writes_of : Option Move → List (ℕ × ℕ)
writes_of o = option_map_or (λ m. m.writes) o []

-- an end that is whole, or broken off where a sink takes no more
abbrev pub WholeOrBrokenOff : LimitsView → Setting → MachineState → List (ℕ × ℕ) → Ended → ℕ → Option ℕ → Type 0
WholeOrBrokenOff l g s out end t o = MatchOption o (RanWhole l g s out end t) (λ k. BrokenOff l g s out k t)

-- what is done at the end of the script
abbrev pub at_end : List Task
at_end = print_pattern ∷ flush ∷ empty_pattern ∷ begin ∷ []

-- whether the first task takes a turn: the start of a cycle that has a line, a command, a byte of a file
abbrev pub takes_turn : Setting → MachineState → List Task → Bool
takes_turn g s (begin ∷ rest) = not (none_left s.lines)
takes_turn g s (rebegin ∷ rest) = true
takes_turn g s (do_at k ∷ rest) = is_some (slice_get g.commands k)
takes_turn g s (copy k o ∷ rest) = is_some (slice_get (g.files k) o)
takes_turn g s other = false

-- a first task that takes a turn has one left
abbrev pub HasTurn : LimitsView → Setting → MachineState → Type 0
HasTurn l g s = takes_turn g s s.tasks ≡ true → s.turns < l.turns

-- the line that the first task is about: that of the state, or the one that it fetches
abbrev pub line_at : MachineState → List Task → ℕ
line_at s (begin ∷ rest) = s.number + 1
line_at s (fetch ∷ rest) = s.number + 1
line_at s (join ∷ rest) = s.number + 1
line_at s other = s.number

-- whether the first task reaches a command, or the end of the script
abbrev pub reaches : List Task → Bool
reaches (do_at k ∷ rest) = true
reaches other = false

-- there is a move, and what it leads to is so
abbrev pub Leads : Option Move → (Move → Type 0) → Type 0
Leads o P = (m : Move) × (o ≡ Some m) × P m

-- The cause of an end by the first task. In a state within the limits it is `IsCause`.
abbrev pub StopsTask : LimitsView → Setting → MachineState → Ended → Type 0
StopsTask l g s Done = s.tasks ≡ []
StopsTask l g s (PatternFull n) =
    (n ≡ line_at s s.tasks) × HasTurn l g s × Leads (next_move g s) (λ m. l.space < length m.next.pattern)
StopsTask l g s (HoldFull n) = (n ≡ s.number) × HasTurn l g s × Leads (next_move g s) (λ m. l.space < length m.next.hold)
StopsTask l g s (QueueFull n) = (n ≡ s.number) × HasTurn l g s × Leads (next_move g s) (λ m. l.queue < length m.next.queue)
StopsTask l g s TurnsSpent = (s.turns ≡ l.turns) × (takes_turn g s s.tasks ≡ true)
StopsTask l g s (NoPrevious n) = (n ≡ s.number) × HasTurn l g s × (reaches s.tasks ≡ true) × (next_move g s ≡ None)
StopsTask l g s InputBroken = reads g s.tasks ≡ true
StopsTask l g s other = ⊥

-- Moves were made, which led to this state. Only the last of them may have led to the start of a cycle.
pub record Ran (l : LimitsView) (g : Setting) (s now : MachineState) (old new : SinkView) : Type 0 where
  pub t : ℕ
  pub some : 0 < t
  pub is : after g s t ≡ now
  pub one : InOneCycle g s t
  pub within : StaysWithin l g s t
  pub sinks : WereSent old new (written g s t)

-- Moves were made, and then the end came.
pub record RanToEnd (l : LimitsView) (g : Setting) (s now : MachineState) (old new : SinkView) (end : Ended) : Type 0 where
  pub t : ℕ
  pub out : List (ℕ × ℕ)
  pub sinks : WereSent old new out
  pub cause : IsCause l g s out end t
  pub holds : HoldsAt g s t now (named_sink end)
  pub one : InOneCycle g s (t + 1)
  pub lines : (after g s t).lines ≡ now.lines

-- What a call that makes moves answers: Ok where they were made, and else the end.
abbrev pub MakesMoves : LimitsView → Setting → MachineState → MachineState → SinkView → SinkView → Result Unit Ended → Type 0
MakesMoves l g s now old new (Ok u) = Ran l g s now old new
MakesMoves l g s now old new (Err end) = RanToEnd l g s now old new end

-- The same where the moves lead to the state `there`, and an end is reported of the state `now`.
abbrev pub MovesTo : LimitsView → Setting → MachineState → MachineState → MachineState → SinkView → SinkView → Result Unit Ended → Type 0
MovesTo l g s there now old new (Ok u) = Ran l g s there old new
MovesTo l g s there now old new (Err end) = RanToEnd l g s now old new end

-- a command that has this action
abbrev pub HasAction : Option Command → Action → Type 0
HasAction None action = ⊥
HasAction (Some c) action = c.action ≡ action

-- What a call answers that writes the queue, or a part of it: which tasks and entries there are before and after it, whatever
-- tasks and entries come after those. An end is reported of the state `now`. The call takes turns, within the limit.
pub record FlushesPart {O T : Type 0} (tally : O → SinkView) (count : O → ℕ) (text : T → ℕ → Option (List ℕ)) (l : LimitsView)
    (from to : List Task → List Entry → List Task × List Entry) (turns turns' : ℕ) (build build' : SpaceView)
    (outputs outputs' : O) (texts texts' : T) (result : Result Unit Ended) : Type 0 where
  pub moves : (g : Setting) → GivesFiles (text texts) g.files → (s now : MachineState) (rest : List Task) (later : List Entry) →
      s.tasks ≡ (from rest later).0 → s.queue ≡ (from rest later).1 → s.turns ≡ turns → WithinLimits l s →
      SameLengths s now → s.lines ≡ now.lines →
      MovesTo l g s (record s { tasks = (to rest later).0; queue = (to rest later).1; turns = turns' }) now
      (tally outputs) (tally outputs') result
  pub devices : DeliversAlone tally count outputs outputs' result
  pub limit : build'.limit ≡ build.limit
  pub later : turns ≤ turns'
  pub within : turns' ≤ l.turns
  pub kept : (j : ℕ) → Keeps (text texts j) (text texts' j)
