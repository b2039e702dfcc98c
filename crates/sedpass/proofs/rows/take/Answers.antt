use Rattle.sedpass.proofs.Words.{arith, seen-length, size, tree_at, IsCounted, TakesAtLeast, length, row_of, ◌<◌, ◌∙◌, ◌≡◌}
use Rattle.sedpass.proofs.ActLemmas.{taken_both, taken_step}
use Rattle.sedpass.proofs.RowLemmas.{keeps_then, still_wide}
use Rattle.sedpass.proofs.rows.take.Goals as goal

pub loop-x-preserved : goal.loop-x-preserved
unfolding TakesAtLeast IsCounted
loop-x-preserved c =
    let at = c.leaves_row-leaves.result in
    let old = c.loop-x.invariant in
    let some : 1 < at = omega (arith, c.leaves_row-leaves.ensures) in
    let kept : row_of c.set.new.self at ≡ row_of c.args.rows.now at = c.set.ensures.keeps.same at (λ e. omega (arith, e, some)) ∙ old.keeps.same at (λ e. omega (arith, e, some)) in
    let long : c.loop-x.x < length (row_of c.loop-x.rows 1) = omega (arith, old.wide.2 1 (omega (arith, old.wide.1)), c.loop-x-test.true, c.requires.root) in
    record {
      order = (omega arith, omega arith);
      wide = still_wide _ _ _ _ _ c.set.ensures.keeps old.wide;
      keeps = keeps_then _ _ _ _ _ _ (λ q ne. (ne, ne)) old.keeps c.set.ensures.keeps;
      set = λ less. rw (← kept) (c.next_set-x-in-loop-x.ensures.set (omega (arith, less)));
      taken = taken_step _ _ _ _ _ _ _ c.loop-x.x _ c.look-node.result c.is_taken_by.result c.look-node.ensures.node (old.set (omega (arith, c.loop-x-test.true))) c.is_taken_by.ensures old.order.0 (omega (arith, c.loop-x-test.true)) c.set.ensures.marks long
          (λ q from under. rw (← kept) (c.next_set-x-in-loop-x.ensures.clear q from under)) old.taken;
      cost = (omega arith, omega arith);
      counts = omega arith;
    }

-- by the row of takers
pub returns-in-Some-clause-leaves : goal.returns-in-Some-clause-leaves
returns-in-Some-clause-leaves c =
    let act = c.args.act in
    let e = act.prepared.now in
    let told = rw c.in-Some.is at c.requires.takers in
    let long = seen-length act.way.mirrored e in
    let whole : size (tree_at e.nodes act.root) ≡ length e.nodes = rw told.2 c.nodes-nodes.ensures.expr.whole in
    let low : c.low-low.result ≡ 0 = omega (arith, c.low-low.ensures.size, whole, told.2, c.requires.root) in
    taken_both _ _ _ (row_of c.args.rows.now c.leaves_row-leaves.result) (row_of c.args.rows.now c.in-Some.row) _ c.args.byte (c.low-low.ensures.range act.way.mirrored) low (omega (arith, long, told.2, c.requires.root)) told.3
    (λ k lt. c.blend.ensures.marks k (omega (arith, lt, long, c.nodes-nodes.ensures.value)))
