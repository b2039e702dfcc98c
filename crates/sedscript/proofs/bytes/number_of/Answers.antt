use Rattle.std.proofs.Common.{arith}
use Rattle.std.proofs.lemmas.Grind.{common_steps}
use Rattle.sedscript.proofs.bytes.number_of.Goals as goal

pub digits-preserved : goal.digits-preserved
digits-preserved c = grind (arith, common_steps)
