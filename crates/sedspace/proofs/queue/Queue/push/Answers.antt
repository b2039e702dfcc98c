use Rattle.std.proofs.Common.{rules}
use Rattle.sedspace.proofs.queue.Queue.push.Goals as goal

pub unreachable-requires : goal.unreachable-requires
unreachable-requires c = search rules

pub invariant_of-self : goal.invariant_of-self
invariant_of-self c = search rules

pub returns-clause-fits : goal.returns-clause-fits
returns-clause-fits c = search rules
