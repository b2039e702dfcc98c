use Rattle.std.proofs.Common.{subst}
use Rattle.sedengine.specs.Ends.{SinksGain}
use Rattle.scripts.proofs.TurnedEnds.{turned_ends as law}
use Rattle.scripts.proofs.laws.turned_ends.Goals as goal

pub returns : goal.returns
returns c = λ l input old new end ample to.
    let ends = law c.one_meaning.ensures l to.p to.files input to.out end to.t to.meaning ample to.free to.cause in (ends.0, subst (SinksGain old new) ends.1 to.gains.gained)
