use Rattle.scripts.proofs.Famous.{number_law as law}
use Rattle.scripts.proofs.laws.number.Goals as goal

pub returns : goal.returns
returns c = law c.one_meaning.ensures
