use Rattle.std.proofs.Common.{rules}
use Rattle.sedscript.proofs.Bounds.{quiet_in_range}
use Rattle.sedscript.proofs.script.Script.set_quiet.Goals as goal

pub returns : goal.returns
returns c = search rules

pub invariant_of-self : goal.invariant_of-self
invariant_of-self c = quiet_in_range _ c.self.invariant
