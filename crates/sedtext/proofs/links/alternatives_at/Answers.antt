use Rattle.sedtext.proofs.Closing.{◌∙◌, both_ways, Either, sym}
use Rattle.sedtext.proofs.links.alternatives_at.Goals as goal

pub returns-clause-some : goal.returns-clause-some
returns-clause-some c =
    let either = Either c.in-Some-Either.left c.in-Some-Either.right in
    let read = c.in-Some-Either.ensures.lookup.3 in
    both_ways c.args.expr.now.nodes c.args.chain.now c.in_ok-left.left.items c.in_ok-right.right.items c.args.at c.in-Some-Either.left c.in-Some-Either.right read.0 (sym c.in-Some-Either.field-0-is ∙ read.1 either) c.in_ok-left.ensures c.in_ok-right.ensures
