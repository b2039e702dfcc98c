use Rattle.std.proofs.Common.{false}
use Rattle.sedre.proofs.Exclusive.{no_fault}
use Rattle.sedre.proofs.Folding.{faulty_alike}
use Rattle.sedre.proofs.laws.reads_without_fault.Goals as goal

pub returns : goal.returns
returns c = λ kind folded delimiter text expression groups max_nodes place reason r shallow small f. no_fault kind folded delimiter text r shallow small (faulty_alike kind false folded delimiter text f)
