use Rattle.examples.proofs.WrittenEnds.{replacement_whole as law}
use Rattle.examples.proofs.laws.replacement_whole.Goals as goal

pub returns : goal.returns
returns c = law
