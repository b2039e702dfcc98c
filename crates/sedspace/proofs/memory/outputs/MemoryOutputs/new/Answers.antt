use Rattle.std.proofs.Common.{arith}
use Rattle.std.proofs.lemmas.Grind.{common_steps}
use Rattle.sedspace.proofs.memory.outputs.MemoryOutputs.new.Goals as goal

pub loop-preserved : goal.loop-preserved
loop-preserved c = record { made = grind (arith, common_steps); count = omega arith; room = omega arith }
