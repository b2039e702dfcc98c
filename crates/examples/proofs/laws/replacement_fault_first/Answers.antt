use Rattle.examples.proofs.WrongEscapes.{replacement_fault_first as law}
use Rattle.examples.proofs.laws.replacement_fault_first.Goals as goal

pub returns : goal.returns
returns c = law
