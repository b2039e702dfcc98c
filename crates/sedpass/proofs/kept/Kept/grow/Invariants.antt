use Rattle.sedpass.proofs.Words.{◌≡◌, ◌+◌, ◌-◌, length, vec_capacity}
use Rattle.sedpass.proofs.kept.Kept.grow.Given as goal

abbrev pub invariant-loop-self : goal.invariant-loop-self
invariant-loop-self l = record {
  capacity : vec_capacity l.self.states ≡ vec_capacity l.initial.self.states;
  region : l.self.region ≡ l.initial.self.region;
  edges : l.self.edges ≡ l.initial.self.edges;
}

abbrev pub decreases-loop-self : goal.decreases-loop-self
decreases-loop-self l = l.bytes + 1 - length l.self.states.items
