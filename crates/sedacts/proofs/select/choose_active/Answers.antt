use Rattle.std.proofs.Common.{rules}
use Rattle.sedacts.proofs.select.choose_active.Goals as goal

pub returns-in-Line-3 : goal.returns-in-Line-3
returns-in-Line-3 c = search rules
