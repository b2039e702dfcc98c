use Rattle.std.proofs.Common.{arith}
use Rattle.std.proofs.lemmas.Grind.{common_steps}
use Rattle.sedre.proofs.delimiter.next_place.Goals as goal

pub returns-in-92-clause-is : goal.returns-in-92-clause-is
returns-in-92-clause-is c = grind (arith, common_steps)

pub returns-in-92-2-clause-is : goal.returns-in-92-2-clause-is
returns-in-92-2-clause-is c = grind (arith, common_steps)

pub returns-in-91-clause-is : goal.returns-in-91-clause-is
returns-in-91-clause-is c = grind (arith, common_steps)

pub returns-in_default-clause-is : goal.returns-in_default-clause-is
returns-in_default-clause-is c = grind (arith, common_steps)
