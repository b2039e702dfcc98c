use Rattle.scripts.proofs.Famous.{cut_law as law}
use Rattle.scripts.proofs.laws.without.Goals as goal

pub returns : goal.returns
returns c = law c.one_meaning.ensures
