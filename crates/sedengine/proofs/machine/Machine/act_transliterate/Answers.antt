use Rattle.sedengine.proofs.Tasks.{mapped_is_run}
use Rattle.sedengine.proofs.machine.Machine.act_transliterate.Goals as goal

pub invariant_of-self : goal.invariant_of-self
invariant_of-self c = mapped_is_run c.self.inside c.translate.new.self _ c.self.invariant c.translate.ensures
