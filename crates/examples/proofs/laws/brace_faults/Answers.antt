use Rattle.examples.proofs.ReadFunctions.{brace_faults as law}
use Rattle.examples.proofs.laws.brace_faults.Goals as goal

pub returns : goal.returns
returns c = law
