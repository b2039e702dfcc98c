use Rattle.sedscript.proofs.OneFault.{one_fault as law}
use Rattle.sedscript.proofs.laws.one_fault.Goals as goal

pub returns : goal.returns
returns c = law c.reads_as_one.ensures c.one_fault.ensures
