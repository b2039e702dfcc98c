-- Private to the proofs: no contract of a public item cites what is here.
-- How lines that no command of a script touches are passed over.
use Rattle.std.specs.Prelude.{◌≡◌, ℕ, ◌+◌, ◌*◌, ◌<◌, ◌≤◌, ◌⊎◌, Bool, false, Option, None, Result, Ok, Err, OnOk, List, [], ◌∷◌, ◌++◌, length, take, nat_eq, if◌then◌else◌}
use Rattle.std.specs.List.{All}
use Rattle.std.specs.Option.{ForSome, option_or}
use Rattle.std.specs.Borrow.{GName}
use Rattle.sedspace.specs.Stream.{Stream, left, lines_left, AreWholeLines}
use Rattle.sedacts.specs.Types.{Action}
use Rattle.sedacts.specs.declared.ends.Ended.{Ended}
use Rattle.sedscript.specs.declared.types.Action.TheVariants.{Block}
use Rattle.sedscript.specs.Ranges.{IsOneOf}
use Rattle.sedspace.specs.Lines.{split_lines, HasNoNewline}
use Rattle.sedacts.specs.State.{LimitsView, begin, do_at, MachineState, Setting, finds_in}
use Rattle.sedacts.specs.Move.{after, newline, none_left, to_sink, written}
use Rattle.sedacts.specs.Calls.{Delivers, PutsPart, ReadsLines, without_count}
use Rattle.sedacts.specs.Meters.{WereSent, SinkView}
use Rattle.sedacts.specs.declared.meter.CutShort.{CutShort}
use Rattle.sedacts.specs.Ends.{IsCause, WithinLimits, StaysWithin, named_sink, LosesPartAfter, size_of}
use Rattle.sedacts.specs.Held.{HoldsAt}
use Rattle.sedacts.specs.Run.{RunState, SameRun, at_lines, lost, run_setting}
use Rattle.sedacts.specs.Steps.{at_end}
use Rattle.sedacts.specs.Bringing.{TakesLines}
use Rattle.sedengine.specs.Advancing.{weight}
use Rattle.sedacts.specs.declared.idle.Need.{Need}
use Rattle.sedacts.specs.declared.idle.Need.TheVariants.{NoMatch, OtherNumber, NotLast, Nothing}
use Rattle.sedengine.specs.declared.machine.passing.IdleLines.{IdleLines}
use Rattle.sedacts.specs.Idle.{AsksNoNumber, IsIdle, IsNeeded, RangesIdle, bytes_of_lines, judged}

-- the engine that passes over a command: over the block of `{`
abbrev pub passed_over : RunState → Action → RunState
passed_over e (Block next) = record e { state = record e.state { tasks = do_at next ∷ [] } }
passed_over e other = e

-- the commands of a setting leave lines alone, have a need, judge an expression last
abbrev pub IsIdleIn : Setting → ℕ → Type 0
IsIdleIn g c = IsIdle g.commands g.substitutions c

abbrev pub AsksIn : Setting → ℕ → Need → Type 0
AsksIn g c need = IsNeeded g.commands g.substitutions c need

abbrev pub judged_in : Setting → ℕ → Option ℕ
judged_in g c = judged g.commands g.substitutions c

-- a line of a number has what a need asks for; `last` says whether it is the last one
abbrev pub MeetsNeed : Setting → ℕ → Bool → List ℕ → Need → Type 0
MeetsNeed g number last line (NoMatch e) = g.finds e line ≡ false
MeetsNeed g number last line (OtherNumber n) = nat_eq n number ≡ false
MeetsNeed g number last line NotLast = last ≡ false
MeetsNeed g number last line Nothing = Unit {0}

-- a line that each of these commands leaves alone
abbrev pub LeftAlone : Setting → ℕ → ℕ → Bool → List ℕ → Type 0
LeftAlone g c number last line = (need : Need) → AsksIn g c need → MeetsNeed g number last line need

-- Lines after the one of this number, each of which is left alone; `rest` are those after them.
abbrev pub AllLeftAlone : Setting → ℕ → ℕ → List (List ℕ) → List (List ℕ) → Type 0
AllLeftAlone g c number [] rest = Unit {0}
AllLeftAlone g c number (line ∷ lines) rest =
    LeftAlone g c (number + 1) (none_left (lines ++ rest)) line × AllLeftAlone g c (number + 1) lines rest

-- What is asked of a block of lines after the one of this number: that no expression has a match in one of them, that no
-- number is that of one of them, and that lines are left where it matters; `rest` are those after the block.
pub record BlockLeftAlone (g : Setting) (c number : ℕ) (lines rest : List (List ℕ)) : Type 0 where
  pub unmatched : (e : ℕ) → AsksIn g c (NoMatch e) → All (λ line. g.finds e line ≡ false) lines
  pub numbers : (n : ℕ) → AsksIn g c (OtherNumber n) → (n ≤ number) ⊎ (number + length lines < n)
  pub last : AsksIn g c NotLast → none_left rest ≡ false

-- an expression that has no match in a text is found nowhere in it
abbrev pub FindsAsItSearches : Setting → Type 0
FindsAsItSearches g = (e : ℕ) (w : List ℕ) → g.finds e w ≡ false → g.search e w 0 ≡ None

-- what is written of lines that are left alone
abbrev pub passed_out : Bool → List (List ℕ) → List (ℕ × ℕ)
passed_out quiet lines = if quiet then [] else to_sink 0 (bytes_of_lines lines)

-- the state after k lines, one or more, that are left alone by c commands
abbrev pub after_passing : Setting → ℕ → ℕ → List (List ℕ) → MachineState → MachineState
after_passing g c k rest s = record s {
  lines = rest;
  number = s.number + k;
  replaced = false;
  used = option_or (judged_in g c) s.used;
  turns = s.turns + k * (c + 1);
}

-- the engine after k such lines
abbrev pub engine_after : RunState → Setting → ℕ → ℕ → RunState
engine_after e g c k = record e { state = record (after_passing g c k [] e.state) { lines = e.state.lines } }

-- the moves of one cycle in which c commands do nothing: it begins, reaches them and the end of the script, writes the pattern
-- space and the queue, and empties the pattern space
abbrev pub moves_of : ℕ → ℕ
moves_of c = c + 5

-- the first t moves from a state lead to another one within the limits, and write this
pub record Went (l : LimitsView) (g : Setting) (s now : MachineState) (out : List (ℕ × ℕ)) (t : ℕ) : Type 0 where
  pub is : after g s t ≡ now
  pub wrote : written g s t ≡ out
  pub within : StaysWithin l g s t

-- A state between cycles, from which lines may be passed over.
pub record CanPass (l : LimitsView) (g : Setting) (c : ℕ) (s : MachineState) : Type 0 where
  pub fits : WithinLimits l s
  pub begins : s.tasks ≡ begin ∷ []
  pub empty : s.pattern ≡ []
  pub none : s.queue ≡ []
  pub ranges : RangesIdle g.commands c s.ranges

-- the state in which the line after k others that are left alone is about to be written
abbrev pub line_due : Setting → ℕ → ℕ → List ℕ → List (List ℕ) → MachineState → MachineState
line_due g c k line rest s = record s {
  lines = rest;
  number = s.number + k + 1;
  pattern = line;
  replaced = false;
  used = option_or (judged_in g c) s.used;
  tasks = at_end;
  turns = s.turns + k * (c + 1) + 1 + c;
}

-- Moves were made, if any, which led to this state; cycles may have started meanwhile.
pub record MovesLedTo (l : LimitsView) (g : Setting) (s now : MachineState) (old new : SinkView) : Type 0 where
  pub t : ℕ
  pub is : after g s t ≡ now
  pub within : StaysWithin l g s t
  pub sinks : WereSent old new (written g s t)

-- Moves were made, and then the end came; cycles may have started meanwhile.
pub record StoppedPassing (l : LimitsView) (g : Setting) (s now : MachineState) (old new : SinkView) (end : Ended) : Type 0 where
  pub t : ℕ
  pub out : List (ℕ × ℕ)
  pub sinks : WereSent old new out
  pub cause : IsCause l g s out end t
  pub holds : HoldsAt g s t now (named_sink end)
  pub lines : (after g s t).lines ≡ now.lines

-- Moves were made that took these lines, and then the end came.
pub record HaltedPassing {R : Type 0} (remaining : R → Option (List ℕ)) (old new : Stream R) (l : LimitsView) (g : Setting)
    (s : MachineState) (e : RunState) (sinks sinks' : SinkView) (end : Ended) : Type 0 where
  pub rest : List (List ℕ)
  pub stopped : StoppedPassing l g s (at_lines e rest) sinks sinks' end
  pub lines : List (List ℕ)
  pub are : s.lines ≡ lines ++ rest
  pub bytes : LosesPartAfter (left remaining old) (left remaining new) (size_of lines) (lost l end)

-- What a call answers that makes moves from the state s, of one cycle or more, and may take lines.
abbrev pub StepsPassing : {R : Type 0} → (R → Option (List ℕ)) → Stream R → Stream R → List (List ℕ) → LimitsView → Setting →
    MachineState → RunState → SinkView → SinkView → Result Unit Ended → Type 0
StepsPassing remaining old new ls l g s e' sinks sinks' (Ok u) =
    (rest : List (List ℕ)) × TakesLines remaining old new ls rest × MovesLedTo l g s (at_lines e' rest) sinks sinks'
StepsPassing remaining old new ls l g s e' sinks sinks' (Err end) = HaltedPassing remaining old new l g s e' sinks sinks' end

-- What a call answers that passes over the first of the lines ahead, where no command touches them. There is no more to do then.
pub record PassesLines {R O : Type 0} (remaining : R → Option (List ℕ)) (failures : R → ℕ) (reference : R → List GName)
    (tally : O → SinkView) (count : O → ℕ) (old new : RunState) (lines lines' : Stream R) (outputs outputs' : O)
    (result : Result Unit Ended) : Type 0 where
  pub steps : ForSome (lines_left remaining lines) (λ ls. (files : ℕ → List ℕ) →
      StepsPassing remaining lines lines' ls old.limits (run_setting old files) (at_lines old ls) new
      (tally outputs) (tally outputs') result)
  pub input : ReadsLines remaining failures reference lines lines' result
  pub output : Delivers tally count outputs outputs' result
  pub falls : OnOk result (weight new ≤ weight old)
  pub same : SameRun old new

-- The first of these bytes, as many as the block has, are lines that no command touches, and which may be passed over.
pub record PassesLinesOver (e : RunState) (ahead : List ℕ) (b : IdleLines) : Type 0 where
  pub idle : IsIdle e.script.commands e.script.substitutions b.reached
  pub ranges : RangesIdle e.script.commands b.reached e.state.ranges
  pub none : e.state.queue ≡ []
  pub judged : b.judged ≡ judged e.script.commands e.script.substitutions b.reached
  pub one : IsOneOf (length e.script.expressions) b.judged
  pub few : b.reached ≤ 64
  pub some : 0 < b.lines
  pub within : b.bytes ≤ length ahead
  pub whole : AreWholeLines (take b.bytes ahead)
  pub count : b.lines ≡ length (split_lines (take b.bytes ahead))
  pub short : b.bytes ≤ e.limits.space
  pub turns : e.state.turns + b.lines * (b.reached + 1) ≤ e.limits.turns
  pub clear : AsksNoNumber e.script.commands e.script.substitutions b.reached e.state.number b.lines
  pub unmatched : (x : ℕ) → IsNeeded e.script.commands e.script.substitutions b.reached (NoMatch x) →
      All (λ line. finds_in e.script.expressions x line ≡ false) (split_lines (take b.bytes ahead))
  pub last : IsNeeded e.script.commands e.script.substitutions b.reached NotLast → b.bytes < length ahead

-- the engine after a block was passed over
abbrev pub counted_block : RunState → IdleLines → RunState
counted_block e b = record e {
  state = record e.state {
    number = e.state.number + b.lines;
    replaced = false;
    used = option_or b.judged e.state.used;
    turns = e.state.turns + b.lines * (b.reached + 1);
  };
}

-- the engine that has this line in the pattern space, and is to write it
abbrev pub line_brought : RunState → List ℕ → RunState
line_brought e line = record e {
  state = record e.state { pattern = line; tasks = do_at (length e.script.commands) ∷ [] };
}

-- After `done` of these bytes a sink took no more: the line in which that was, or after which its newline was due, was brought to
-- the pattern space, and the lines before it are gone.
pub record BreaksOff {R : Type 0} (old new : Stream R) (e e' : RunState) (done : ℕ) : Type 0 where
  pub start : ℕ
  pub line : List ℕ
  pub rest : List ℕ
  pub whole : AreWholeLines (take start old.ahead)
  pub are : old.ahead ≡ take start old.ahead ++ (line ++ newline ∷ rest)
  pub within : start + length line < length old.ahead
  pub clear : HasNoNewline line
  pub before : start ≤ done
  pub inside : done ≤ start + length line
  pub taken : new ≡ record old { ahead = rest }
  pub brought : e' ≡ line_brought e line

-- the same within the first of these bytes
abbrev pub BreaksOffBy : {R : Type 0} → Stream R → Stream R → RunState → RunState → ℕ → ℕ → Type 0
BreaksOffBy old new e e' done bytes = (x : BreaksOff old new e e' done) × (x.start + length x.line < bytes)

-- So many lines may be passed over, if no command touches them for what they contain.
pub record AllowsLines (e : RunState) (c most : ℕ) : Type 0 where
  pub none : e.state.queue ≡ []
  pub ranges : RangesIdle e.script.commands c e.state.ranges
  pub clear : AsksNoNumber e.script.commands e.script.substitutions c e.state.number most
  pub turns : e.state.turns + most * (c + 1) ≤ e.limits.turns

-- Lines were written as they are, unless default output is suppressed, or the standard output took no more after so many bytes.
abbrev pub PutsLines : SinkView → SinkView → Bool → List ℕ → Result Unit CutShort → Type 0
PutsLines old new quiet bytes (Ok u) = WereSent old new (if quiet then [] else to_sink 0 bytes)
PutsLines old new quiet bytes (Err cut) = (quiet ≡ false) × PutsPart old new 0 bytes (Err cut)

-- What a call answers that writes lines so, and does nothing else.
pub record WritesLines {O : Type 0} (tally : O → SinkView) (count : O → ℕ) (old new : O) (quiet : Bool) (bytes : List ℕ)
    (result : Result Unit CutShort) : Type 0 where
  pub puts : PutsLines (tally old) (tally new) quiet bytes result
  pub devices : Delivers tally count old new (without_count result)
