use Rattle.std.proofs.Common.{arith, rules}
use Rattle.sedre.proofs.Stacked.{partly_start, partly_step, partly_end}
use Rattle.sedre.proofs.stack.Stack.join_all.Goals as goal

pub loop-self-init : goal.loop-self-init
loop-self-init c = record { some = search rules; trees = λ limit ts ps h s. partly_start c.args.alternatives limit c.args.self.now ts ps (omega (arith, h, c.requires)) s }

pub loop-self-preserved : goal.loop-self-preserved
loop-self-preserved c = record { some = omega (arith, c.in_ok-join.ensures.count); trees = λ limit ts ps h s. partly_step c.args.alternatives limit _ _ ts ps (omega arith) c.in_ok-join.ensures.trees (c.loop-self.invariant.trees limit ts ps h s) }

pub returns-clause-trees : goal.returns-clause-trees
returns-clause-trees c = λ limit ts ps h s. partly_end c.args.alternatives limit _ ts ps (omega arith) (c.loop-self.invariant.trees limit ts ps h s)
