use Rattle.sedpass.proofs.Words.{◌+◌, ◌-◌, ◌*◌, length, Ascending, TakesAtLeast, CostsWithin, IsForwardOne, IsOffset, SameShape, Follows, KeepsRegion, Meet, owed_region}
use Rattle.sedpass.proofs.kept.Kept.cut.Given as goal

abbrev pub invariant-loop-place : goal.invariant-loop-place
invariant-loop-place l = record {
  order : Ascending l.from l.place l.self.region.end;
  keeps : KeepsRegion l.subject.prepared.now l.subject.text.now l.initial.table l.table l.fn.self l.self;
  forward_one : IsForwardOne l.subject.prepared.now l.forward_one;
  forward_one_shape : SameShape l.initial.forward_one l.forward_one;
  offset : IsOffset l.forward_one l.offset;
  follows : Follows l.subject.prepared.now l.subject.text.now l.forward_one l.a l.from l.place l.offset;
  meets : Meet l.subject.prepared.now l.subject.text.now l.initial.table l.initial.self l.a l.from l.from l.place;
  cost : CostsWithin l.initial.steps l.steps (owed_region (length l.subject.prepared.now.nodes) l.initial.self.region l.from + 36 * length l.subject.prepared.now.nodes * l.place) (owed_region (length l.subject.prepared.now.nodes) l.self.region l.place + 36 * length l.subject.prepared.now.nodes * l.from);
  counts : TakesAtLeast l.initial.steps l.steps (2 * (l.place - l.from));
}

abbrev pub decreases-loop-place : goal.decreases-loop-place
decreases-loop-place l = l.self.region.end - l.place
