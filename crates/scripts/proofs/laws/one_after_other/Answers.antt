use Rattle.scripts.proofs.Placing.{in_turn_law as law}
use Rattle.scripts.proofs.laws.one_after_other.Goals as goal

pub returns : goal.returns
returns c = law
