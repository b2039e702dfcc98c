use Rattle.sedtext.proofs.Closing.{◌*◌, ◌<◌, Meet, row_of, ℕ}
use Rattle.sedtext.proofs.counted.rows.Rows.meets.Given as goal

abbrev pub invariant-loop-x : goal.invariant-loop-x
invariant-loop-x l = (c : ℕ) → c < 64 * l.x → Meet (row_of l.self l.row) (row_of l.other l.other_row) l.count c → ⊥
