use Rattle.sedpass.proofs.Words.{ℕ, ◌-◌, ◌*◌, ◌≤◌, length, Ascending, TakesAtLeast, CostsWithin, IsForwardOne, IsOffset, SameShape, Follows, Meet}
use Rattle.sedpass.proofs.kept.Kept.meet.Given as goal

abbrev pub invariant-loop-place : goal.invariant-loop-place
invariant-loop-place l = record {
  order : Ascending l.from l.place l.self.region.to;
  forward_one : IsForwardOne l.subject.prepared.now l.forward_one;
  shape : SameShape l.initial.forward_one l.forward_one;
  offset : IsOffset l.forward_one l.offset;
  meets : (a i : ℕ) → a ≤ l.self.region.root → i ≤ l.from → Follows l.subject.prepared.now l.subject.text.now l.initial.forward_one a i l.from l.initial.offset →
      Follows l.subject.prepared.now l.subject.text.now l.forward_one a i l.place l.offset × Meet l.subject.prepared.now l.subject.text.now l.table l.self a i l.from l.place;
  cost : CostsWithin l.initial.steps l.steps (36 * length l.subject.prepared.now.nodes * l.place) (36 * length l.subject.prepared.now.nodes * l.from);
  counts : TakesAtLeast l.initial.steps l.steps (2 * (l.place - l.from));
}
