-- Private to the proofs: no contract that `sedmatch` makes public cites what is here.
-- A set repeated a fixed number of times: bytes of it one after another, always as many.
use Rattle.std.specs.Prelude.{◌≡◌, ℕ, ◌+◌, ◌<◌, ◌≤◌, ◌↔◌, Bool, List, length, Option, Some, None}
use Rattle.sedre.specs.declared.types.Node.{Node}
use Rattle.sedtext.specs.Links.{ChainLeads}
use Rattle.sedtext.specs.Runs.{SetRepeats}
use Rattle.sedtext.specs.declared.links.Link.{Link}

-- `count` bytes of the set lead from i to j
abbrev pub IsFixedRun : List Bool → ℕ → List ℕ → ℕ → ℕ → Type 0
IsFixedRun members count w i j = SetRepeats members w i j × (j ≡ i + count)

-- the chain leads over `count` bytes of the set, and over nothing else
abbrev pub AllFixedRuns : List Link → List Bool → ℕ → Type 0
AllFixedRuns links members count = (nodes : List Node) (w : List ℕ) (i j : ℕ) → ChainLeads nodes w links i j ↔ IsFixedRun members count w i j

-- the first place from p on from which `count` bytes are in the set, if there is one
abbrev pub FirstFixedRun : List Bool → ℕ → List ℕ → ℕ → Option ℕ → Type 0
FirstFixedRun members count w p None = (k : ℕ) → p ≤ k → k ≤ length w → SetRepeats members w k (k + count) → ⊥
FirstFixedRun members count w p (Some k) = (p ≤ k) × (k + count ≤ length w) × SetRepeats members w k (k + count) × ((h : ℕ) → p ≤ h → h < k → SetRepeats members w h (h + count) → ⊥)
