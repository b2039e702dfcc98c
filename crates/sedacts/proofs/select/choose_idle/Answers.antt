use Rattle.std.proofs.Common.{rules}
use Rattle.sedacts.proofs.select.choose_idle.Goals as goal

pub returns : goal.returns
returns c = search rules
