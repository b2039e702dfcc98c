use Rattle.examples.proofs.WrongEscapes.{string_fault_first as law}
use Rattle.examples.proofs.laws.string_fault_first.Goals as goal

pub returns : goal.returns
returns c = law
