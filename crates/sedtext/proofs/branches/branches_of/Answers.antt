use Rattle.sedtext.proofs.Closing.{◌+◌, AreAlternatives, branches_more, expression_tree, take}
use Rattle.sedtext.proofs.branches.branches_of.Goals as goal

pub loop-turn-preserved : goal.loop-turn-preserved
loop-turn-preserved c =
    let ways : AreAlternatives _ (take (c.lead-fixed.result + 1) c.loop-turn.chain.items) c.in-Some.left.items c.in-Some.right.items = rw (c.in-Some.is, c.deref-in-loop-turn.ensures.value) at c.in_ok-left.ensures.some in
    (branches_more _ (expression_tree c.args.expr.now) _ _ _ c.in-Some.left _ _ c.loop-turn.invariant.0 c.in_ok-push.ensures.items ways, ways.within.1)
