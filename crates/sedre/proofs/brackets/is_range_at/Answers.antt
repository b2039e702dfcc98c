use Rattle.std.proofs.Common.{arith}
use Rattle.std.proofs.lemmas.Grind.{common_steps}
use Rattle.sedre.proofs.brackets.is_range_at.Goals as goal

pub returns-in-45-clause-is : goal.returns-in-45-clause-is
returns-in-45-clause-is c = grind (arith, common_steps)

pub returns-in_default-clause-is : goal.returns-in_default-clause-is
returns-in_default-clause-is c = grind (arith, common_steps)

pub returns-in_default-2-clause-is : goal.returns-in_default-2-clause-is
returns-in_default-2-clause-is c = grind (arith, common_steps)
