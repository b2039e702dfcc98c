use Rattle.examples.proofs.PieceReading.{replacement_read as law}
use Rattle.examples.proofs.laws.replacement_read.Goals as goal

pub returns : goal.returns
returns c = law
