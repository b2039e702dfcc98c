use Rattle.std.proofs.Common.{rules}
use Rattle.sedre.proofs.tokens.is_first.Goals as goal

pub returns-in_default : goal.returns-in_default
returns-in_default c = search rules
