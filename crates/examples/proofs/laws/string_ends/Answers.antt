use Rattle.examples.proofs.StringEnds.{string_ends as law}
use Rattle.examples.proofs.laws.string_ends.Goals as goal

pub returns : goal.returns
returns c = law
