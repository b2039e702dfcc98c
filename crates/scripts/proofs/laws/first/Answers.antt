use Rattle.scripts.proofs.Famous.{first_law as law}
use Rattle.scripts.proofs.laws.first.Goals as goal

pub returns : goal.returns
returns c = law c.one_meaning.ensures
