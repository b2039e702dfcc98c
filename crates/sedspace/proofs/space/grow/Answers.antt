use Rattle.std.proofs.Common.{arith}
use Rattle.std.proofs.lemmas.Grind.{common_steps}
use Rattle.sedspace.proofs.space.grow.Goals as goal

pub returns-in-Ok-clause-kept : goal.returns-in-Ok-clause-kept
returns-in-Ok-clause-kept c = grind (arith, common_steps)

pub returns-else-len-clause-kept : goal.returns-else-len-clause-kept
returns-else-len-clause-kept c = grind (arith, common_steps)
