use Rattle.sedpass.proofs.Words.{AreWide, Ascending, CostsWithin, EntersDownTo, IsApart, IsTrue, KeepsRows, TakesAtLeast, length, has_mark, marks_of, ends_row, nodes_of, null_in, row_of, ◌*◌, ◌+◌, ◌-◌, ◌<◌}
use Rattle.sedpass.proofs.ActLemmas.{HasEnds, HasLeaves}
use Rattle.sedpass.proofs.rows.descend.Given as goal

abbrev pub invariant-loop-x : goal.invariant-loop-x
invariant-loop-x l = record {
  order : Ascending l.low l.x (l.act.root + 1);
  wide : AreWide (length l.act.prepared.now.nodes) l.state l.rows;
  keeps : KeepsRows (IsApart 1 l.state) l.fn.rows l.rows;
  ends : HasEnds (length (nodes_of l.act.way l.act.prepared.now)) l.act.root l.act.way.mirrored l.begun (null_in l.act.prepared.now.nodes l.act.kind) (marks_of l.fn.base ends_row l.fn.rows) (row_of l.fn.rows 1) (row_of l.rows l.ends);
  set : l.low < l.x → IsTrue (has_mark (row_of l.rows 0) (l.x - 1));
  entered : EntersDownTo (nodes_of l.act.way l.act.prepared.now) l.act.root l.begun (null_in l.act.prepared.now.nodes l.act.kind) (row_of l.fn.rows 1) (row_of l.rows 0) l.x (l.act.root + 1);
  leaves : HasLeaves (nodes_of l.act.way l.act.prepared.now) (row_of l.initial.rows l.leaves) (row_of l.rows 0) (row_of l.rows l.leaves) l.x;
  cost : CostsWithin l.fn.steps l.steps (2 * length l.act.prepared.now.nodes + 4 + 1 + 5 * (l.act.root + 1)) (5 * l.x);
  counts : TakesAtLeast l.fn.steps l.steps (2 * length l.act.prepared.now.nodes);
}

abbrev pub decreases-loop-x : goal.decreases-loop-x
decreases-loop-x l = l.x - l.low
