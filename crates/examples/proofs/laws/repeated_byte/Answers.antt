use Rattle.examples.proofs.ReadFunctions.{repeated_byte as law}
use Rattle.examples.proofs.laws.repeated_byte.Goals as goal

pub returns : goal.returns
returns c = law
