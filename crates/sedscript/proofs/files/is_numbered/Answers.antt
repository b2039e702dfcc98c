use Rattle.std.proofs.Common.{rules}
use Rattle.sedscript.proofs.files.is_numbered.Goals as goal

pub returns : goal.returns
returns c = search rules
