-- Private to the proofs: no contract that `sedmatch` makes public cites what is here.
-- Places of a text as far as an expression distinguishes them.
use Rattle.std.specs.Prelude.{◌≡◌, ℕ, ◌≤◌, Bool, ◌↔◌, List, length, IsTrue}

-- the three places come in this order
abbrev pub Ascending : ℕ → ℕ → ℕ → Type 0
Ascending a b c = (a ≤ b) × (b ≤ c)

-- begin and end say whether the place is the text's beginning, and whether it is its end
abbrev pub IsPlace : List ℕ → ℕ → Bool → Bool → Type 0
IsPlace w place begin end = (IsTrue begin ↔ (place ≡ 0)) × (IsTrue end ↔ (place ≡ length w))
