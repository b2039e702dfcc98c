use Rattle.std.proofs.Common.{arith}
use Rattle.std.proofs.lemmas.Grind.{common_steps}
use Rattle.sedfiles.proofs.parts.Uses.comes_first.Goals as goal

pub returns-else-other-others : goal.returns-else-other-others
returns-else-other-others c = grind (arith, common_steps)
