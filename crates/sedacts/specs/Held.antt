-- What an engine holds (this project's own).
use Rattle.std.specs.Prelude.{◌≡◌, ℕ, suc, ◌+◌, ◌*◌, ◌≤◌, ◌⊎◌, Bool, true, false, Option, Some, None, List, ◌∷◌, length}
use Rattle.sedacts.specs.State.{LimitsView, Task, flush, copy, MachineState, Setting}
use Rattle.sedacts.specs.Move.{after}
use Rattle.sedacts.specs.declared.ends.Held.{Held}

-- the bytes held: three spaces, what is read ahead, and the queue
abbrev pub total_of : Held → ℕ
total_of h = h.pattern + h.hold + h.build + h.look + 8 * h.queue

-- the most bytes that may be held
abbrev pub bound_of : LimitsView → ℕ
bound_of l = 3 * l.space + l.look + 8 * l.queue

-- whether the first task writes the queue, or an entry of it
abbrev pub is_flushing : List Task → Bool
is_flushing (flush ∷ rest) = true
is_flushing (copy k o ∷ rest) = true
is_flushing other = false

-- The states s and s' have as many bytes in the pattern space and in the hold space, and as many entries in the queue. While
-- the queue is written, s' may still count entries that were written already.
pub record SameLengths (s s' : MachineState) : Type 0 where
  pub pattern : length s'.pattern ≡ length s.pattern
  pub hold : length s'.hold ≡ length s.hold
  pub queue : is_flushing s.tasks ≡ false → length s'.queue ≡ length s.queue
  pub entries : length s.queue ≤ length s'.queue

-- At an end the lengths are those of the state after t moves. Where a sink took no more, they may also be those after the
-- move in which that happened.
abbrev pub HoldsAt : Setting → MachineState → ℕ → MachineState → Option ℕ → Type 0
HoldsAt g s t now None = SameLengths (after g s t) now
HoldsAt g s t now (Some k) = SameLengths (after g s t) now ⊎ SameLengths (after g s (suc t)) now
