use Rattle.std.proofs.Common.{arith}
use Rattle.std.proofs.lemmas.Grind.{common_steps}
use Rattle.csed.proofs.running.outcome_of.Goals as goal

pub returns-in-Done : goal.returns-in-Done
returns-in-Done c = grind (arith, common_steps)
