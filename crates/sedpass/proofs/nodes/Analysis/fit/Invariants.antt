use Rattle.sedpass.proofs.Words.{◌↔◌, ◌≡◌, length, vec_capacity, Takes, TakesAtLeast, AreFacts, AreParents, SameNulls, false, true}
use Rattle.sedpass.proofs.nodes.Analysis.fit.Given as goal

abbrev pub invariant-loop-x : goal.invariant-loop-x
invariant-loop-x l = record {
  cost : Takes l.initial.steps l.steps l.x;
  counts : TakesAtLeast l.initial.steps l.steps l.x;
  all : length l.self.facts.items ≡ l.x;
  facts : AreFacts l.expr.nodes l.self.facts.items;
  begins : (l.self.begin_tells ≡ false) ↔ SameNulls l.expr.nodes true l.x;
  ends : (l.self.end_tells ≡ false) ↔ SameNulls l.expr.nodes false l.x;
  room : vec_capacity l.self.facts ≡ vec_capacity l.initial.self.facts;
  noted : length l.self.parents.items ≡ l.x;
  parents : AreParents l.expr.nodes l.self.parents.items l.x;
  parents_room : vec_capacity l.self.parents ≡ vec_capacity l.initial.self.parents;
}
