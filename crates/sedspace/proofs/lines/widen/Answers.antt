use Rattle.std.proofs.Common.{rules}
use Rattle.sedspace.proofs.lines.widen.Goals as goal

pub unreachable-requires : goal.unreachable-requires
unreachable-requires c = search rules

pub returns-in-Ok-clause-bound : goal.returns-in-Ok-clause-bound
returns-in-Ok-clause-bound c = search rules
