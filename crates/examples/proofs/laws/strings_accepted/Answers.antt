use Rattle.examples.proofs.ReadFunctions.{strings_accepted as law}
use Rattle.examples.proofs.laws.strings_accepted.Goals as goal

pub returns : goal.returns
returns c = law
