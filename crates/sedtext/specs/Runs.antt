-- Private to the proofs: no contract that `sedmatch` makes public cites what is here.
-- Bytes of a set, any number of them one after another.
use Rattle.std.specs.Prelude.{◌<◌, ℕ, ◌≤◌, Bool, List, length}
use Rattle.sedre.specs.Tree.{byte_of}
use Rattle.sedtext.specs.Spans.{Matches, CopiesLead}
use Rattle.sedtext.specs.Bytes.{MemberAt}

-- any number of bytes of the set lead from i to j
abbrev pub SetRepeats : List Bool → List ℕ → ℕ → ℕ → Type 0
SetRepeats members w i j = CopiesLead (Matches (byte_of members) w) j i

-- the bytes from place i up to k are in the set, and no more that follow
abbrev pub IsRun : List Bool → List ℕ → ℕ → ℕ → Type 0
IsRun members w i k = (k ≤ length w) × SetRepeats members w i k × (MemberAt members w k → ⊥)

-- of the places from p on, i is the first from which all bytes up to but not including q are in the set
abbrev pub RunBegins : List Bool → List ℕ → ℕ → ℕ → ℕ → Type 0
RunBegins members w p q i = (p ≤ i) × (i ≤ q) × SetRepeats members w i q × ((h : ℕ) → p ≤ h → h < i → SetRepeats members w h q → ⊥)
