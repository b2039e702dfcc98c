use Rattle.examples.proofs.ListReading.{others_match as law}
use Rattle.examples.proofs.laws.others_match.Goals as goal

pub returns : goal.returns
returns c = law
