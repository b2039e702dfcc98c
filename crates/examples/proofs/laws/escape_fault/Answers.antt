use Rattle.examples.proofs.ReadFunctions.{escape_fault as law}
use Rattle.examples.proofs.laws.escape_fault.Goals as goal

pub returns : goal.returns
returns c = law
