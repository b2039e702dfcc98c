use Rattle.sedpass.proofs.Words.{IsTrue, KeepsRows, Node, Some, TakenBy, Takes, has_mark, nodes_of, row_of, slice_get, ℕ, ◌*◌, ◌<◌, ◌≡◌, ◌≢◌, ◌↔◌}
use Rattle.sedpass.proofs.rows.mark_takers.Given as goal

abbrev pub invariant-loop-x : goal.invariant-loop-x
invariant-loop-x l = record {
  keeps : KeepsRows (λ q. q ≢ l.fn.row) l.fn.rows l.rows;
  done : (c : ℕ) (node : Node) → c < l.x → slice_get (nodes_of l.act.way l.act.prepared.now) c ≡ Some node → IsTrue (has_mark (row_of l.rows l.fn.row) c) ↔ TakenBy (Some l.byte) node;
  cost : Takes l.fn.steps l.steps (2 * l.x);
}
