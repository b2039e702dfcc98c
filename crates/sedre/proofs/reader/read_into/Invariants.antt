use Rattle.std.proofs.Common.{◌≤◌, ◌-◌, ◌+◌, ℕ, length}
use Rattle.sedre.specs.Stacks.{Nesting, Represents, no_nesting}
use Rattle.sedre.proofs.Reading.{Reading}
use Rattle.sedre.proofs.reader.read_into.Given as goal

abbrev pub invariant-tokens : goal.invariant-tokens
invariant-tokens l = record {
  within : l.at ≤ length l.text;
  few : l.builder.opened ≤ l.at;
  state : (s : Nesting) × ((max_nodes : ℕ) → Represents (max_nodes + 1) l.initial.builder no_nesting → Represents (max_nodes + 1) l.builder s) × Reading l.kind l.folded l.delimiter l.text l.before l.at s;
}

abbrev pub decreases-tokens : goal.decreases-tokens
decreases-tokens l = length l.initial.text - l.at
