use Rattle.scripts.proofs.Famous.{half_law as law}
use Rattle.scripts.proofs.laws.half.Goals as goal

pub returns : goal.returns
returns c = law c.one_meaning.ensures
