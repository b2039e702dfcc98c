use Rattle.std.proofs.Common.{rules}
use Rattle.sedscript.proofs.bytes.belongs.Goals as goal

pub returns-after-b-eq59 : goal.returns-after-b-eq59
returns-after-b-eq59 c = search rules
