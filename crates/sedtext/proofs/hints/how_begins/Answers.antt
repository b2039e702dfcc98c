use Rattle.sedtext.proofs.Words.{arith, expression_tree}
use Rattle.sedtext.proofs.hints.how_begins.Goals as goal

pub returns-in-Some-set_at : goal.returns-in-Some-set_at
returns-in-Some-set_at c =
    let have = c.in-Some-set_at.ensures c.args.expr.now.nodes (expression_tree c.args.expr.now) (rw c.deref-2.ensures.value c.in_ok-branches.ensures.branches) in
    record { begins = λ w i j at. grind (arith, c.of.ensures, have w i j at) }
