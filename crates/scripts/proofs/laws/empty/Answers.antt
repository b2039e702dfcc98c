use Rattle.scripts.proofs.Famous.{empty_law as law}
use Rattle.scripts.proofs.laws.empty.Goals as goal

pub returns : goal.returns
returns c = law c.one_meaning.ensures
