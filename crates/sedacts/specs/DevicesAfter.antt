-- What a run leaves of its devices: which sinks have failed, and how much of the input was taken (this project's own).
use Rattle.std.specs.Prelude.{◌≡◌, ◌≢◌, ℕ, ◌+◌, Option, Result, Ok, Err, List, ◌++◌}
use Rattle.sedacts.specs.Types.{Ended, InputBroken, OutputBroken, PatternFull}
use Rattle.sedspace.specs.Reading.{TakesAtMost}
use Rattle.sedacts.specs.State.{MachineState, Setting, LimitsView}
use Rattle.sedacts.specs.Move.{after}
use Rattle.sedacts.specs.Ends.{size_of, SinkAtEnd}

-- No other sink has failed than one that an end names as broken.
abbrev pub OthersStay : (ℕ → ℕ) → (ℕ → ℕ) → Ended → Type 0
OthersStay old new (OutputBroken k) = (j : ℕ) → j ≢ k → new j ≡ old j
OthersStay old new other = (k : ℕ) → new k ≡ old k

-- What is so of the sinks, whether their bytes are known or not: none has failed where the run goes on, and at an end that which
-- it names as broken alone; and one is named as full only where there is a limit.
abbrev pub SinksAtEnd : Option ℕ → (ℕ → ℕ) → (ℕ → ℕ) → Result Unit Ended → Type 0
SinksAtEnd most old new (Ok u) = (k : ℕ) → new k ≡ old k
SinksAtEnd most old new (Err end) = SinkAtEnd most old new end × OthersStay old new end

-- There are as many sinks as before, and the files among them have the same names.
abbrev pub SameSinks : {O : Type 0} → (O → ℕ) → (O → List (List ℕ)) → O → O → Type 0
SameSinks count names old new = (count new ≡ count old) × (names new ≡ names old)

-- The first t moves took these lines. Their bytes were taken from the source, and at most `more` besides.
pub record TakesInput (g : Setting) (s : MachineState) (old new : Option (List ℕ)) (more : ℕ) (t : ℕ) : Type 0 where
  pub lines : List (List ℕ)
  pub are : s.lines ≡ lines ++ (after g s t).lines
  pub bytes : TakesAtMost old new (size_of lines + more)

-- How many bytes may be taken besides the lines: those that are read ahead and, where the run may have stopped in the middle
-- of a line, those of that line, at most one more than a space holds.
abbrev pub more_at : LimitsView → Ended → ℕ
more_at l (PatternFull n) = l.space + 1 + l.look
more_at l InputBroken = l.space + 1 + l.look
more_at l other = l.look
