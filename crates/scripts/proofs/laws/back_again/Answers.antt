use Rattle.scripts.proofs.WayBack.{back_again_law as law}
use Rattle.scripts.proofs.laws.back_again.Goals as goal

pub returns : goal.returns
returns c = law c.one_meaning.ensures
