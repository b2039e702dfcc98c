use Rattle.std.proofs.Common.{arith}
use Rattle.std.proofs.lemmas.Grind.{elements}
use Rattle.sedspace.proofs.memory.texts.MemoryTexts.fail_at.Goals as goal

pub returns-clause-failed : goal.returns-clause-failed
returns-clause-failed c = grind (arith, elements)

pub returns-clause-others : goal.returns-clause-others
returns-clause-others c = grind (arith, elements)
