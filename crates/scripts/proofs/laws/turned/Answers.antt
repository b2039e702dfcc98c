use Rattle.scripts.proofs.Famous.{turned_law as law}
use Rattle.scripts.proofs.laws.turned.Goals as goal

pub returns : goal.returns
returns c = law c.one_meaning.ensures
