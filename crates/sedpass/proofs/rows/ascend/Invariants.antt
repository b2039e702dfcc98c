use Rattle.sedpass.proofs.Words.{AreWide, Ascending, CostsWithin, EndsUpTo, EntersDownTo, IsTrue, KeepsRows, TakesAtLeast, false, length, has_mark, min, nodes_of, null_in, row_of, ◌*◌, ◌+◌, ◌-◌, ◌<◌, ◌≤◌}
use Rattle.sedpass.proofs.rows.ascend.Given as goal

abbrev pub invariant-loop-y : goal.invariant-loop-y
invariant-loop-y l = record {
  order : Ascending l.low l.y l.act.root;
  wide : AreWide (length l.act.prepared.now.nodes) 0 l.rows;
  keeps : KeepsRows (λ q. 2 ≤ q) l.fn.rows l.rows;
  set : l.y < l.act.root → IsTrue (has_mark (row_of l.rows 1) l.y);
  ended : EndsUpTo (nodes_of l.act.way l.act.prepared.now) l.act.root (has_mark (row_of l.fn.rows 1)) (null_in l.act.prepared.now.nodes l.act.kind) (row_of l.rows 1) l.y;
  entered : EntersDownTo (nodes_of l.act.way l.act.prepared.now) l.act.root false (null_in l.act.prepared.now.nodes l.act.kind) (row_of l.rows 1) (row_of l.rows 0) (l.act.root + 1) l.y;
  cost : CostsWithin l.fn.steps l.steps (length l.act.prepared.now.nodes + min (l.y + 1) l.act.root + 4 * l.y) (5 * l.low);
  counts : TakesAtLeast l.fn.steps l.steps (length l.act.prepared.now.nodes);
}

abbrev pub decreases-loop-y : goal.decreases-loop-y
decreases-loop-y l = l.act.root - l.y
