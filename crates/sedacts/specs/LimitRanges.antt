-- Which numbers are limits (this project's own).
use Rattle.std.specs.Prelude.{ℕ, None, ◌≤◌, ◌^◌}
use Rattle.sedacts.specs.State.{LimitsView}

-- the limits of these numbers, without one on the output
abbrev pub limits_of : ℕ → ℕ → ℕ → ℕ → ℕ → LimitsView
limits_of space queue look turns nodes = record {
  space = space;
  queue = queue;
  look = look;
  turns = turns;
  nodes = nodes;
  output = None;
}

-- each number is in its range
pub record AreLimits (l : LimitsView) : Type 0 where
  pub some_space : 1 ≤ l.space
  pub most_space : l.space ≤ 2 ^ 30
  pub most_queue : l.queue ≤ 2 ^ 24
  pub some_look : 1 ≤ l.look
  pub most_look : l.look ≤ 2 ^ 30
  pub some_nodes : 1 ≤ l.nodes
  pub most_nodes : l.nodes ≤ 65536
