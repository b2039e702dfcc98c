use Rattle.sedtext.proofs.Words.{◌<◌, ◌≡◌, ◌≤◌, ◌-◌, false, row_of, slice_index_or, ℕ}
use Rattle.sedtext.proofs.counted.rows.Rows.last_set.Given as goal

abbrev pub invariant-loop-x : goal.invariant-loop-x
invariant-loop-x l = record {
  steps : l.steps ≡ l.initial.steps;
  to : l.x ≤ l.to;
  clear : (c : ℕ) → l.x ≤ c → c < l.to → slice_index_or (row_of l.self l.row) c false ≡ false;
}

abbrev pub decreases-loop-x : goal.decreases-loop-x
decreases-loop-x l = l.x - l.from
