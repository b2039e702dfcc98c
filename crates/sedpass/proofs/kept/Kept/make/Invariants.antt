use Rattle.sedpass.proofs.Words.{◌≡◌, ℕ, ◌-◌, ◌*◌, ◌<◌, length, Ascending, TakesAtLeast, CostsWithin, SameShape, EdgesFrom, PassesDownTo, SameKept}
use Rattle.sedpass.proofs.kept.Kept.make.Given as goal

abbrev pub invariant-loop-place : goal.invariant-loop-place
invariant-loop-place l = record {
  order : Ascending l.low l.place l.end;
  end_is : l.self.region.end ≡ l.end;
  passes : PassesDownTo l.subject.prepared.now l.subject.text.now l.table l.self l.place l.offset;
  edges : EdgesFrom l.subject.prepared.now l.subject.text.now l.table l.self l.place;
  right : l.low < l.place → l.place < l.end → (b : ℕ) × (l.place ≡ b * (l.table.room - 1));
  shape : SameShape l.initial.table l.table;
  same : SameKept l.initial.self l.self;
  to : l.place < l.end → l.place < l.self.region.to;
  cost : CostsWithin l.initial.steps l.steps (39 * length l.subject.prepared.now.nodes * l.end) (39 * length l.subject.prepared.now.nodes * l.place);
  counts : TakesAtLeast l.initial.steps l.steps (2 * (l.end - l.place));
}

abbrev pub decreases-loop-place : goal.decreases-loop-place
decreases-loop-place l = l.place - l.low
