-- How a run ends: what its sinks have gained, the ends and their causes (this project's own; XCU sed names no limits).
use Rattle.std.specs.Prelude.{◌≡◌, ◌≢◌, ℕ, ◌+◌, ◌≤◌, Option, Some, None, Result, Err, IfSome, MatchOption, List, [], ◌∷◌, length, nat_eq, if◌then◌else◌, suc, ◌<◌, Bool, true, false, ◌||◌, take, slice_get, ◌++◌, drop, ⊤}
use Rattle.std.specs.Option.{option_map_or}
use Rattle.std.specs.Io.KnownBytes.{Appends}
use Rattle.sedspace.specs.Failures.{Rose}
use Rattle.sedacts.specs.Types.{Ended, InputBroken, OutputBroken, OutputFull, Done, PatternFull, HoldFull, QueueFull, TurnsSpent, NoPrevious, Address, Last, Command, Action}
use Rattle.sedscript.specs.declared.types.Action.TheVariants.{Plain}
use Rattle.sedscript.specs.declared.types.Simple.TheVariants as simple
use Rattle.sedacts.specs.State.{LimitsView, Task, begin, do_at, fetch, join, MachineState, Move, Setting}
use Rattle.sedacts.specs.Move.{next_move, after, written}
use Rattle.sedspace.specs.Lines.{HasNoNewline}

-- the bytes of one sink among bytes for all
abbrev pub bytes_of_sink : ℕ → List (ℕ × ℕ) → List ℕ
bytes_of_sink k [] = []
bytes_of_sink k ((sink, byte) ∷ out) = if nat_eq sink k then byte ∷ bytes_of_sink k out else bytes_of_sink k out

-- each sink whose contents are known has gained exactly its part
pub record SinksGain (old new : ℕ → Option (List ℕ)) (out : List (ℕ × ℕ)) : Type 0 where
  pub each : (k : ℕ) → Appends (old k) (new k) (bytes_of_sink k out)

-- a sink that an end names as full has gained exactly the limit; `before` gives what each had gained already
abbrev pub FillsSink : Option ℕ → (ℕ → ℕ) → List (ℕ × ℕ) → Result Unit Ended → Type 0
FillsSink most before out (Err (OutputFull k)) = most ≡ Some (before k + length (bytes_of_sink k out))
FillsSink most before out other = Unit {0}

-- The sinks have gained these bytes, and since the engine was opened, with `before`, no more than the limit, where one is set.
pub record GainedWithin (most : Option ℕ) (before : ℕ → ℕ) (old new : ℕ → Option (List ℕ)) (r : Result Unit Ended)
    (out : List (ℕ × ℕ)) : Type 0 where
  pub gained : SinksGain old new out
  pub within : IfSome most (λ n. (k : ℕ) → before k + length (bytes_of_sink k out) ≤ n)
  pub full : FillsSink most before out r

-- The source has failed at an end that says so, and at no other.
abbrev pub SourceAtEnd : ℕ → ℕ → Ended → Type 0
SourceAtEnd old new InputBroken = Rose old new
SourceAtEnd old new other = new ≡ old

-- A sink that an end names as broken has failed, and one is named as full only where there is a limit on the output.
abbrev pub SinkAtEnd : Option ℕ → (ℕ → ℕ) → (ℕ → ℕ) → Ended → Type 0
SinkAtEnd most old new (OutputBroken k) = Rose (old k) (new k)
SinkAtEnd most old new (OutputFull k) = most ≢ None
SinkAtEnd most old new other = Unit {0}

-- a state within the limits
pub record WithinLimits (l : LimitsView) (s : MachineState) : Type 0 where
  pub pattern : length s.pattern ≤ l.space
  pub hold : length s.hold ≤ l.space
  pub queue : length s.queue ≤ l.queue
  pub turns : s.turns ≤ l.turns

-- each state up to the one after t moves is
unfoldable pub StaysWithin : LimitsView → Setting → MachineState → ℕ → Type 0
StaysWithin l g s t = (k : ℕ) → k ≤ t → WithinLimits l (after g s k)

-- whether an address is `$`
abbrev pub is_dollar : Option Address → Bool
is_dollar (Some Last) = true
is_dollar other = false

-- whether it is the function `n`, which does one thing or another by whether a line is left
abbrev pub is_next_line : Action → Bool
is_next_line (Plain simple.NextLine) = true
is_next_line other = false

-- whether a command asks if a line is left
abbrev pub asks_if_last : Command → Bool
asks_if_last c = is_dollar c.first || is_dollar c.second || is_next_line c.action

-- whether the first task may read the input: it fetches a line, or reaches a command with an address `$` or an `n`
abbrev pub reads : Setting → List Task → Bool
reads g (begin ∷ rest) = true
reads g (fetch ∷ rest) = true
reads g (join ∷ rest) = true
reads g (do_at k ∷ rest) = option_map_or asks_if_last (slice_get g.commands k) false
reads g other = false

-- the next move takes no turn too many, and leads to line n and to a state of which this is so
abbrev pub LeadsWithin : LimitsView → Setting → MachineState → ℕ → (MachineState → Type 0) → Type 0
LeadsWithin l g s n P = (m : Move) × (next_move g s ≡ Some m) × (n ≡ m.next.number) × (m.next.turns ≤ l.turns) × P m.next

-- the sink that an end names, as broken or as full
abbrev pub named_sink : Ended → Option ℕ
named_sink (OutputBroken k) = Some k
named_sink (OutputFull k) = Some k
named_sink other = None

-- The cause of an end that names no sink, at the state where it comes; `BrokenOff` is that of a broken or a full output.
abbrev pub StopsAt : LimitsView → Setting → MachineState → Ended → Type 0
StopsAt l g s Done = s.tasks ≡ []
StopsAt l g s (PatternFull n) = LeadsWithin l g s n (λ now. l.space < length now.pattern)
StopsAt l g s (HoldFull n) = LeadsWithin l g s n (λ now. l.space < length now.hold)
StopsAt l g s (QueueFull n) = LeadsWithin l g s n (λ now. l.queue < length now.queue)
StopsAt l g s TurnsSpent =
    (s.turns ≡ l.turns) × (s.tasks ≢ []) × ((m : Move) → next_move g s ≡ Some m → l.turns < m.next.turns)
StopsAt l g s (NoPrevious n) = (n ≡ s.number) × (s.turns < l.turns) × (s.tasks ≢ []) × (next_move g s ≡ None)
StopsAt l g s InputBroken = reads g s.tasks ≡ true
StopsAt l g s other = ⊥

-- The end comes after t moves, and the output is all that these moves write.
pub record RanWhole (l : LimitsView) (g : Setting) (s : MachineState) (out : List (ℕ × ℕ)) (end : Ended) (t : ℕ) : Type 0 where
  pub within : StaysWithin l g s t
  pub wrote : written g s t ≡ out
  pub cause : StopsAt l g (after g s t) end

-- The end comes in the next move, and names sink k. The output is the first b of the bytes, and the next one is for it.
pub record BrokenOff (l : LimitsView) (g : Setting) (s : MachineState) (out : List (ℕ × ℕ)) (k : ℕ) (t : ℕ) : Type 0 where
  pub within : StaysWithin l g s (suc t)
  pub b : ℕ
  pub byte : ℕ
  pub past : length (written g s t) ≤ b
  pub due : slice_get (written g s (suc t)) b ≡ Some (k, byte)
  pub wrote : take b (written g s (suc t)) ≡ out

-- The end has its cause after t moves from the state s, and `out` is the output till then: the bytes, each with its sink.
abbrev pub IsCause : LimitsView → Setting → MachineState → List (ℕ × ℕ) → Ended → ℕ → Type 0
IsCause l g s out end t = MatchOption (named_sink end) (RanWhole l g s out end t) (λ k. BrokenOff l g s out k t)

-- the bytes of lines, a newline counted with each
abbrev pub size_of : List (List ℕ) → ℕ
size_of [] = 0
size_of (line ∷ lines) = length line + 1 + size_of lines

-- known bytes lose at most n + m from the front, and of these what comes after the first n contains no newline
abbrev pub LosesPartAfter : Option (List ℕ) → Option (List ℕ) → ℕ → ℕ → Type 0
LosesPartAfter None new n m = ⊤
LosesPartAfter (Some xs) None n m = ⊥
LosesPartAfter (Some xs) (Some ys) n m =
    (gone : List ℕ) × (xs ≡ gone ++ ys) × HasNoNewline (drop n gone) × (length gone ≤ n + m)

-- A source that failed gave, after the lines that the first t moves took, a part of one line, of at most `space` bytes.
abbrev pub BreaksInLine : Setting → MachineState → Option (List ℕ) → Option (List ℕ) → ℕ → ℕ → Type 0
BreaksInLine g s old new space t =
    (lines : List (List ℕ)) × (s.lines ≡ lines ++ (after g s t).lines) × LosesPartAfter old new (size_of lines) space
