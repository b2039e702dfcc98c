use Rattle.std.proofs.Common.{rules}
use Rattle.sedre.proofs.table.Expr.look.Goals as goal

pub returns-clause-cost : goal.returns-clause-cost
returns-clause-cost c = search rules
