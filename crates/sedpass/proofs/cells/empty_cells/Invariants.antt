use Rattle.sedpass.proofs.Words.{◌≡◌, ℕ, ◌+◌, ◌-◌, length, slice_index_or, vec_capacity}
use Rattle.sedpass.proofs.cells.empty_cells.Given as goal

abbrev pub invariant-loop-cells : goal.invariant-loop-cells
invariant-loop-cells l = record {
  capacity : vec_capacity l.cells ≡ vec_capacity l.initial.cells;
  same : (k : ℕ) → slice_index_or l.cells.items k 0 ≡ slice_index_or l.initial.cells.items k 0;
}

abbrev pub decreases-loop-cells : goal.decreases-loop-cells
decreases-loop-cells l = l.from + l.size - length l.cells.items
