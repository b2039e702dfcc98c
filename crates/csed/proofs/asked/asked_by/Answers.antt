use Rattle.std.proofs.Common.{rules}
use Rattle.csed.proofs.asked.asked_by.Goals as goal

pub returns-clause-asked : goal.returns-clause-asked
returns-clause-asked c = search rules
