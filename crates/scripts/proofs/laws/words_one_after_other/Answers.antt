use Rattle.scripts.proofs.JoinedRuns.{words_law as law}
use Rattle.scripts.proofs.laws.words_one_after_other.Goals as goal

pub returns : goal.returns
returns c = law c.one_meaning.ensures
