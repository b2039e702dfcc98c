use Rattle.sedpass.proofs.Words.{◌≡◌, ◌+◌, ◌-◌, ◌*◌, ◌/◌, ◌<◌, ◌≤◌, ◌⊎◌, max, length, NoneIn, expression_tree, TakesAtLeast, CostsWithin, IsForwardOne, SameShape}
use Rattle.sedpass.proofs.search.try_all.Given as goal

abbrev pub invariant-loop-start : goal.invariant-loop-start
invariant-loop-start l = record {
  forward_one : IsForwardOne l.subject.prepared.now l.forward_one;
  forward_one_shape : SameShape l.initial.forward_one l.forward_one;
  none : NoneIn (expression_tree l.subject.prepared.now) l.subject.text.now l.from l.start;
  after : l.from ≤ l.start;
  within : l.start ≤ length l.subject.text.now + 1;
  few : l.tried ≤ l.most → l.tried ≤ max l.initial.tried (length l.subject.text.now / 8);
  most : l.most ≤ length l.subject.text.now;
  first : ((l.start ≡ l.from) × (l.tried ≡ l.initial.tried) × (l.most ≡ length l.subject.text.now)) ⊎ ((l.from < l.start) × (l.initial.tried ≤ length l.subject.text.now));
  room : l.tried ≤ max l.initial.tried (length l.subject.text.now / 8) + (length l.subject.text.now + 1 - l.from);
  counts : TakesAtLeast l.initial.steps l.steps (l.start - l.from);
  cost : CostsWithin l.initial.steps l.steps (40 * length l.subject.prepared.now.nodes * l.tried + 3 * l.start) (40 * length l.subject.prepared.now.nodes * l.initial.tried + 3 * l.from);
}

abbrev pub decreases-loop-start : goal.decreases-loop-start
decreases-loop-start l = l.length + 1 - l.start
