use Rattle.sedpass.proofs.Words.{◌≡◌, ◌+◌, ◌-◌, ◌*◌, ◌<◌, ◌≤◌, length, Ascending, TakesAtLeast, CostsWithin, ComesDown}
use Rattle.sedpass.proofs.kept.Kept.pass.Given as goal

abbrev pub invariant-loop-place : goal.invariant-loop-place
invariant-loop-place l = record {
  order : Ascending l.low l.place l.high;
  down : ComesDown l.subject.prepared.now l.subject.text.now l.initial.table l.table l.initial.self l.self l.place l.offset;
  to : l.place < l.high → l.place < l.self.region.to;
  steady : l.initial.table.count + (l.high - l.low) ≤ l.initial.table.room →
      (l.self.region.to ≡ l.initial.self.region.to) × (l.table.count + (l.place - l.low) ≤ l.initial.table.room);
  cost : CostsWithin l.initial.steps l.steps (35 * length l.subject.prepared.now.nodes * l.high) (35 * length l.subject.prepared.now.nodes * l.place);
  counts : TakesAtLeast l.initial.steps l.steps (2 * (l.high - l.place));
}
