use Rattle.examples.proofs.FlagReading.{number_shown as law}
use Rattle.examples.proofs.laws.number_read.Goals as goal

pub returns : goal.returns
returns c = law
