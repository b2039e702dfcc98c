use Rattle.scripts.proofs.Famous.{without_law as law}
use Rattle.scripts.proofs.laws.unmatched.Goals as goal

pub returns : goal.returns
returns c = law c.one_meaning.ensures
