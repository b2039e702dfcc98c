use Rattle.examples.proofs.ReadFunctions.{text_fault as law}
use Rattle.examples.proofs.laws.text_fault.Goals as goal

pub returns : goal.returns
returns c = law
