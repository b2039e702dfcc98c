use Rattle.std.proofs.Common.{arith}
use Rattle.std.proofs.lemmas.Grind.{common_steps}
use Rattle.sedspace.proofs.memory.source.MemorySource.next_end.Goals as goal

pub returns-then-cut-len-clause-place : goal.returns-then-cut-len-clause-place
returns-then-cut-len-clause-place c = grind (arith, common_steps)

pub loop-cut-preserved : goal.loop-cut-preserved
loop-cut-preserved c = grind (arith, common_steps)

pub returns-clause-place : goal.returns-clause-place
returns-clause-place c = grind (arith, common_steps)
