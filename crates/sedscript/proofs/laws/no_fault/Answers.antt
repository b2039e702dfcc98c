use Rattle.sedscript.proofs.Exclusive.{means_no_fault as law}
use Rattle.sedscript.proofs.laws.no_fault.Goals as goal

pub returns : goal.returns
returns c = law c.reads_as_one.ensures
