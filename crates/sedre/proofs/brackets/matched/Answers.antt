use Rattle.std.proofs.Common.{rules}
use Rattle.sedre.proofs.brackets.matched.Goals as goal

pub returns-then-negated : goal.returns-then-negated
returns-then-negated c = search rules
