-- Private to the proofs: no contract of a public item cites what is here.
-- How a space keeps its bytes: in a list that may be longer, with a newline after them.
use Rattle.std.specs.Prelude.{◌≡◌, ℕ, ◌-◌, ◌≤◌, List, Some, length, take, drop, slice_get}
use Rattle.sedspace.specs.Lines.{HasNoNewline}

-- the bytes from the front to the end
abbrev pub held_between : ℕ → ℕ → List ℕ → List ℕ
held_between front end held = drop front (take end held)

-- a newline is at the end
abbrev pub NewlineAt : ℕ → List ℕ → Type 0
NewlineAt end held = slice_get held end ≡ Some 10

-- the first so many bytes contain no newline, and neither do the last so many
pub record IsClear (first last : ℕ) (bytes : List ℕ) : Type 0 where
  pub first_within : first ≤ length bytes
  pub last_within : last ≤ length bytes
  pub first_clear : HasNoNewline (take first bytes)
  pub last_clear : HasNoNewline (drop (length bytes - last) bytes)
