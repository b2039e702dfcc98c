use Rattle.std.proofs.Common.{arith}
use Rattle.std.proofs.lemmas.Grind.{elements}
use Rattle.sedspace.proofs.memory.outputs.MemoryOutputsOutputs.write.Goals as goal

pub returns-clause-appends : goal.returns-clause-appends
returns-clause-appends c = grind (arith, elements)

pub returns-clause-failed : goal.returns-clause-failed
returns-clause-failed c = grind (arith, elements)

pub returns-clause-others : goal.returns-clause-others
returns-clause-others c = grind (arith, elements)

pub returns-clause-takes : goal.returns-clause-takes
returns-clause-takes c = grind (arith, elements)
