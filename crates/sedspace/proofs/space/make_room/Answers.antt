use Rattle.std.proofs.Common.{arith}
use Rattle.std.proofs.lemmas.Grind.{common_steps}
use Rattle.sedspace.proofs.space.make_room.Goals as goal

pub returns-then-count-most-clause-kept : goal.returns-then-count-most-clause-kept
returns-then-count-most-clause-kept c = grind (arith, common_steps)

pub returns-clause-kept : goal.returns-clause-kept
returns-clause-kept c = grind (arith, common_steps)
