use Rattle.std.proofs.Common.{arith}
use Rattle.std.proofs.lemmas.Grind.{elements}
use Rattle.sedspace.proofs.memory.outputs.MemoryOutputs.fail_at.Goals as goal

pub returns : goal.returns
returns c = grind (arith, elements)
