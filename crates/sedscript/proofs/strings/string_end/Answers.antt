use Rattle.std.proofs.Common.{arith}
use Rattle.std.proofs.lemmas.Grind.{common_steps}
use Rattle.sedscript.proofs.strings.string_end.Goals as goal

pub bytes-preserved : goal.bytes-preserved
bytes-preserved c = grind (arith, common_steps)
