use Rattle.scripts.proofs.Famous.{print_law as law}
use Rattle.scripts.proofs.laws.print.Goals as goal

pub returns : goal.returns
returns c = law c.one_meaning.ensures
