use Rattle.std.proofs.Common.{false}
use Rattle.sedre.proofs.Places.{fault_within}
use Rattle.sedre.proofs.laws.fault_within.Goals as goal

pub returns : goal.returns
returns c = λ kind delimiter text max_nodes place reason f. fault_within kind false delimiter text max_nodes f
