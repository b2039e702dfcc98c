-- The room for a search, as its callers see it.
use Rattle.std.specs.Prelude.{ℕ, ◌≤◌}

-- the most bytes that a text may have, and the most nodes that an expression may have
pub record SearchRoom : Type 0 where
  pub text : ℕ
  pub nodes : ℕ

-- a text of `text` bytes and an expression of `nodes` nodes fit into the room
abbrev pub FitInto : ℕ → ℕ → SearchRoom → Type 0
FitInto text nodes room = (text ≤ room.text) × (nodes ≤ room.nodes)
