use Rattle.sedpass.proofs.Words.{◌+◌, ◌-◌, ◌*◌, length, not, Ascending, TakesAtLeast, CostsWithin, AllMarked, KeepsRegion, ends_shown, owed_region}
use Rattle.sedpass.proofs.kept.Kept.seek.Given as goal

abbrev pub invariant-loop-place : goal.invariant-loop-place
invariant-loop-place l = record {
  order : Ascending l.from l.place l.self.region.end;
  keeps : KeepsRegion l.subject.prepared.now l.subject.text.now l.initial.table l.table l.initial.self l.self;
  passed : AllMarked l.subject.prepared.now.nodes l.subject.text.now l.initial.self.region.root
      (ends_shown l.initial.table.way.all_starts l.initial.self.region.end) l.x (not l.marked) l.from l.place;
  cost : CostsWithin l.initial.steps l.steps (owed_region (length l.subject.prepared.now.nodes) l.initial.self.region l.from + 2 * l.place) (owed_region (length l.subject.prepared.now.nodes) l.self.region l.place + 2 * l.from);
  counts : TakesAtLeast l.initial.steps l.steps (l.place - l.from);
}

abbrev pub decreases-loop-place : goal.decreases-loop-place
decreases-loop-place l = l.self.region.end - l.place
