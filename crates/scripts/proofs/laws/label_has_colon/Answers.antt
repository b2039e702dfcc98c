use Rattle.scripts.proofs.Colons.{label_law as law}
use Rattle.scripts.proofs.laws.label_has_colon.Goals as goal

pub returns : goal.returns
returns c = law
