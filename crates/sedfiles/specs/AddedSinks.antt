-- Sinks that files are added to, and their flush (XCU sed, "w wfile").
use Rattle.std.specs.Prelude.{◌≡◌, ℕ, ◌+◌, Bool, true, false, List, [], ◌∷◌, ◌++◌, ◌≤◌, Result, Ok, Err}
use Rattle.sedspace.specs.Failures.{Rose}

-- a sink more where one was added
abbrev pub AddsSink : Bool → ℕ → ℕ → Type 0
AddsSink true old new = new ≡ old + 1
AddsSink false old new = new ≡ old

-- the name of a file more where one was added, the last
abbrev pub AddsName : Bool → List ℕ → List (List ℕ) → List (List ℕ) → Type 0
AddsName true name old new = new ≡ old ++ name ∷ []
AddsName false name old new = new ≡ old

-- No sink failed at an Ok, and the one that an Err names did. No number of failures falls.
abbrev pub FailsFlush : Result Unit ℕ → (ℕ → ℕ) → (ℕ → ℕ) → Type 0
FailsFlush (Ok u) old new = (k : ℕ) → new k ≡ old k
FailsFlush (Err k) old new = Rose (old k) (new k) × ((j : ℕ) → old j ≤ new j)
