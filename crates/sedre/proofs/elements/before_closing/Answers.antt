use Rattle.std.proofs.Common.{arith}
use Rattle.std.proofs.lemmas.Grind.{common_steps}
use Rattle.sedre.proofs.ElementLemmas.{closing_end}
use Rattle.sedre.proofs.elements.before_closing.Goals as goal

pub returns-clause-is : goal.returns-clause-is
returns-clause-is c = closing_end c.args.closing c.loop-at.at c.args.bytes.now (omega arith) c.loop-at.invariant.1

pub returns-then-bytes-at-eq93-clause-is : goal.returns-then-bytes-at-eq93-clause-is
returns-then-bytes-at-eq93-clause-is c = grind (arith, common_steps)

pub loop-at-preserved : goal.loop-at-preserved
loop-at-preserved c = grind (arith, common_steps)
