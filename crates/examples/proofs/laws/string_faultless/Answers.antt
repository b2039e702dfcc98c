use Rattle.examples.proofs.WrittenFaults.{string_faultless as law}
use Rattle.examples.proofs.laws.string_faultless.Goals as goal

pub returns : goal.returns
returns c = law
