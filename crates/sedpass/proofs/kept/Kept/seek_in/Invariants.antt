use Rattle.sedpass.proofs.Words.{◌-◌, not, Ascending, TakesAtLeast, CostsWithin, AllMarked, ends_shown}
use Rattle.sedpass.proofs.kept.Kept.seek_in.Given as goal

abbrev pub invariant-loop-place : goal.invariant-loop-place
invariant-loop-place l = record {
  order : Ascending l.from l.place l.self.region.to;
  passed : AllMarked l.subject.prepared.now.nodes l.subject.text.now l.self.region.root
      (ends_shown l.table.way.all_starts l.self.region.end) l.x (not l.marked) l.from l.place;
  cost : CostsWithin l.initial.steps l.steps l.place l.from;
  counts : TakesAtLeast l.initial.steps l.steps (l.place - l.from);
}
