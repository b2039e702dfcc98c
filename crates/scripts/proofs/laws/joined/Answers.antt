use Rattle.scripts.proofs.Famous.{joined_law as law}
use Rattle.scripts.proofs.laws.joined.Goals as goal

pub returns : goal.returns
returns c = law c.one_meaning.ensures
