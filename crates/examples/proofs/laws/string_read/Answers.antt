use Rattle.examples.proofs.StringReading.{string_read as law}
use Rattle.examples.proofs.laws.string_read.Goals as goal

pub returns : goal.returns
returns c = law
