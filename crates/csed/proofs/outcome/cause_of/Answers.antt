use Rattle.std.proofs.Common.{refl}
use Rattle.csed.proofs.outcome.cause_of.Goals as goal

pub returns-in-HoldFull : goal.returns-in-HoldFull
returns-in-HoldFull c = rw c.in-HoldFull.is refl
