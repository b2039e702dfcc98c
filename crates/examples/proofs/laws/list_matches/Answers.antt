use Rattle.examples.proofs.ListReading.{list_matches as law}
use Rattle.examples.proofs.laws.list_matches.Goals as goal

pub returns : goal.returns
returns c = law
