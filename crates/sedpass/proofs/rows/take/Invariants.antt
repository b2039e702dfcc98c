use Rattle.sedpass.proofs.Words.{AreWide, Ascending, CostsWithin, IsTrue, KeepsRows, Some, TakesAtLeast, length, has_mark, min, nodes_of, row_of, ◌*◌, ◌+◌, ◌-◌, ◌<◌, ◌≢◌}
use Rattle.sedpass.proofs.ActLemmas.{HasTaken}
use Rattle.sedpass.proofs.rows.take.Given as goal

abbrev pub invariant-loop-x : goal.invariant-loop-x
invariant-loop-x l = record {
  order : Ascending l.low l.x l.end;
  wide : AreWide (length l.act.prepared.now.nodes) l.state l.rows;
  keeps : KeepsRows (λ q. q ≢ 1) l.fn.rows l.rows;
  set : l.x < l.end → IsTrue (has_mark (row_of l.fn.rows l.leaves) l.x);
  taken : HasTaken (nodes_of l.act.way l.act.prepared.now) l.low l.act.root (row_of l.fn.rows l.leaves) (Some l.byte) (row_of l.rows 1) l.x;
  cost : CostsWithin l.fn.steps l.steps (length l.act.prepared.now.nodes + min (l.x + 1) l.end + 2 * l.x) (3 * l.low);
  counts : TakesAtLeast l.fn.steps l.steps (length l.act.prepared.now.nodes);
}

abbrev pub decreases-loop-x : goal.decreases-loop-x
decreases-loop-x l = l.end - l.x
