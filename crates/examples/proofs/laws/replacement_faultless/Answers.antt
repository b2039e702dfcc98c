use Rattle.examples.proofs.WrittenFaults.{replacement_faultless as law}
use Rattle.examples.proofs.laws.replacement_faultless.Goals as goal

pub returns : goal.returns
returns c = law
