use Rattle.examples.proofs.FlagReading.{before_file as law}
use Rattle.examples.proofs.laws.flags_before_file.Goals as goal

pub returns : goal.returns
returns c = law
