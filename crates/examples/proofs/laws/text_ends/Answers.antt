use Rattle.examples.proofs.TextEnds.{text_ends as law}
use Rattle.examples.proofs.laws.text_ends.Goals as goal

pub returns : goal.returns
returns c = law
