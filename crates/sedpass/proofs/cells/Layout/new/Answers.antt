use Rattle.sedpass.proofs.Words.{◌≡◌, ℕ, ◌^◌, ◌<◌, ◌≤◌, arith, pow-le-pow_right, slice_index_or, rules}
use Rattle.sedpass.specs.Table.{AreColumns, HasEdgeCells}
use Rattle.sedpass.proofs.cells.Layout.new.Goals as goal
use Rattle.sedpass.proofs.cells.Layout.new.Goals.{then-tells, else-tells, then-tells-2, else-tells-2, then-alone, else-alone}

pub returns : goal.returns
unfolding AreColumns HasEdgeCells
returns c =
    let columns = c.min-columns.result in
    let edge_at = c.if-tells-2.edge_at in
    let most = c.min-most.result in
    let classes = c.classes-classes.ensures in
    let of = c.classes-classes.result.now.of in
    let r = c.ilog2.result in
    let up : 9 ≤ r → 2 ^ 9 ≤ 2 ^ r = pow-le-pow_right (omega arith) in
    let min' = c.if-tells.min in
    let some : (1 ≤ columns) × (columns ≤ min') × (min' ≤ most) = search (rules, c.if-tells.branch, c.min-most.ensures, c.min-columns.ensures, c.nodes.ensures.expr.arena.nonempty, classes.some) in
    let is = c.columns_of.ensures in
    let own : (byte : ℕ) → byte < 256 → slice_index_or c.columns_of.result byte 0 < c.if-alone.filled → slice_index_or c.columns_of.result byte 0 ≡ slice_index_or of byte 0 = λ byte lt low. grind (arith, is byte lt, classes.below byte lt, c.if-alone.branch) in
    let fine : AreColumns c.args.prepared.now.nodes (record { column_of = c.columns_of.result; columns = columns; filled = c.if-alone.filled; edge_at = edge_at; shift = r }) =
    (λ byte lt. omega (arith, is byte lt, some.0), λ one other lt lt' less same. classes.alike one other lt lt' (grind (arith, own, same, less))) in
    search (rules, up, c.if-tells-2.branch, c.if-tells.branch)
