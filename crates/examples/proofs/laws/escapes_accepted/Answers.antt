use Rattle.examples.proofs.ReadFunctions.{escapes_accepted as law}
use Rattle.examples.proofs.laws.escapes_accepted.Goals as goal

pub returns : goal.returns
returns c = law
