use Rattle.examples.proofs.FlagReading.{flags_shown as law}
use Rattle.examples.proofs.laws.flags_read.Goals as goal

pub returns : goal.returns
returns c = law
