use Rattle.std.proofs.Common.{false}
use Rattle.sedre.proofs.OneFault.{one_fault}
use Rattle.sedre.proofs.laws.one_fault.Goals as goal

pub returns : goal.returns
returns c = λ kind delimiter text max_nodes place more reason other f g. one_fault kind false delimiter text max_nodes f g
