use Rattle.sedtext.proofs.Closing.{All, IsLeft, IsWithin, length, total_size}
use Rattle.sedtext.proofs.links.continued.Given as goal

abbrev pub invariant-loop-index : goal.invariant-loop-index
invariant-loop-index l = IsLeft l.expr.nodes l.fn.before l.fn.node l.links.items l.rest.items × All (IsWithin (length l.expr.nodes)) l.links.items

abbrev pub decreases-loop-index : goal.decreases-loop-index
decreases-loop-index l = total_size l.expr.nodes l.rest.items
