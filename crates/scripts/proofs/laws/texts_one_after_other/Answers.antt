use Rattle.scripts.proofs.JoinedRuns.{joined_law as law}
use Rattle.scripts.proofs.laws.texts_one_after_other.Goals as goal

pub returns : goal.returns
returns c = law c.one_meaning.ensures
