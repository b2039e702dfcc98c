use Rattle.std.proofs.Common.{rules}
use Rattle.sedspace.proofs.adapters.ToWriterOutputs.write.Goals as goal

pub returns-in-Ok-clause-progress : goal.returns-in-Ok-clause-progress
returns-in-Ok-clause-progress g c = search rules
