use Rattle.scripts.proofs.Famous.{pairs_law as law}
use Rattle.scripts.proofs.laws.pairs.Goals as goal

pub returns : goal.returns
returns c = law c.one_meaning.ensures
