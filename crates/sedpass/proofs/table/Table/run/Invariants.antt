use Rattle.sedpass.proofs.Words.{◌+◌, ◌-◌, ◌*◌, length, TakesAtLeast, CostsWithin, IsTable, IsOffset, SameShape, PassIs}
use Rattle.sedpass.proofs.table.Table.run.Given as goal

abbrev pub invariant-loop-here : goal.invariant-loop-here
invariant-loop-here l = record {
  table : IsTable l.prepared l.self;
  shape : SameShape l.fn.self l.self;
  offset : IsOffset l.self l.here.offset;
  passes : PassIs l.prepared l.self l.text l.at l.here;
  cost : CostsWithin l.fn.steps l.steps (40 * length l.prepared.nodes * (l.here.place + 1)) (40 * length l.prepared.nodes * l.at);
  counts : TakesAtLeast l.fn.steps l.steps (2 * (l.here.place - l.at) + 1);
}

abbrev pub decreases-loop-here : goal.decreases-loop-here
decreases-loop-here l = length l.text - l.here.place
