use Rattle.sedengine.proofs.Ending.{fits_seen}
use Rattle.sedengine.proofs.machine.Machine.is_within_limits.Goals as goal

pub returns : goal.returns
returns c = λ ls. fits_seen c.self.inside c.args.self.now ls c.self.view_is c.self.invariant
