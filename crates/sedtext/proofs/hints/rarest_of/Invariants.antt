use Rattle.sedtext.proofs.Words.{AllPass, AreBranches, List, Node, Tree}
use Rattle.sedtext.proofs.hints.rarest_of.Given as goal

abbrev pub invariant-loop-offset : goal.invariant-loop-offset
invariant-loop-offset l = (nodes : List Node) (e : Tree) → AreBranches nodes e l.branches → AllPass e l.sieve
