use Rattle.scripts.proofs.JoinedRuns.{means_law as law}
use Rattle.scripts.proofs.laws.texts_in_turn.Goals as goal

pub returns : goal.returns
returns c = law
