use Rattle.scripts.proofs.Cutting.{apart_law as law}
use Rattle.scripts.proofs.laws.apart.Goals as goal

pub returns : goal.returns
returns c = law
