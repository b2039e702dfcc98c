use Rattle.scripts.proofs.Famous.{last_law as law}
use Rattle.scripts.proofs.laws.last.Goals as goal

pub returns : goal.returns
returns c = law c.one_meaning.ensures
