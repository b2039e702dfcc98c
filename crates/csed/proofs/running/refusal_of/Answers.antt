use Rattle.std.proofs.Common.{inr, refl, ap}
use Rattle.sedscript.specs.declared.types.ScriptFault.{ScriptFault}
use Rattle.csed.proofs.running.refusal_of.Goals as goal

pub returns-in_default : goal.returns-in_default
returns-in_default c = inr (refl, λ is. c.in_default.not-NoMemory (ap (λ (f : ScriptFault). f.reason) is))
