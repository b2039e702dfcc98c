use Rattle.std.proofs.Common.{arith}
use Rattle.std.proofs.lemmas.Grind.{elements}
use Rattle.sedspace.proofs.memory.texts.MemoryTextsTexts.read_at.Goals as goal

pub returns-then-number-len-clause-bytes : goal.returns-then-number-len-clause-bytes
returns-then-number-len-clause-bytes c = grind (arith, elements)

pub returns-then-number-len-clause-count : goal.returns-then-number-len-clause-count
returns-then-number-len-clause-count c = grind (arith, elements)

pub returns-clause-bytes : goal.returns-clause-bytes
returns-clause-bytes c = grind (arith, elements)

pub returns-clause-count : goal.returns-clause-count
returns-clause-count c = grind (arith, elements)
