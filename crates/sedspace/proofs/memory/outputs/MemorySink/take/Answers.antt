use Rattle.std.proofs.Common.{rules}
use Rattle.sedspace.proofs.memory.outputs.MemorySink.take.Goals as goal

pub returns : goal.returns
returns c = search rules

pub returns-then-is_ok : goal.returns-then-is_ok
returns-then-is_ok c = search rules
