use Rattle.std.proofs.Common.{rules}
use Rattle.sedscript.proofs.flags.with_flag.Goals as goal

pub returns-in-73-2 : goal.returns-in-73-2
returns-in-73-2 c = search rules
