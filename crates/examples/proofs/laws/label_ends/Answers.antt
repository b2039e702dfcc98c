use Rattle.examples.proofs.LabelEnds.{label_ends as law}
use Rattle.examples.proofs.laws.label_ends.Goals as goal

pub returns : goal.returns
returns c = law
