use Rattle.scripts.proofs.Famous.{replaced_law as law}
use Rattle.scripts.proofs.laws.substituted.Goals as goal

pub returns : goal.returns
returns c = law c.one_meaning.ensures
