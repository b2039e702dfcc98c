use Rattle.sedtext.proofs.Words.{AllWithin, IsOneByte}
use Rattle.sedtext.proofs.branches.lead.Given as goal

abbrev pub invariant-loop-x : goal.invariant-loop-x
invariant-loop-x l = AllWithin IsOneByte l.chain 0 l.x
