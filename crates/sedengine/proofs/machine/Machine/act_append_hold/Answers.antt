use Rattle.std.proofs.Common.{ap, ◌∙◌}
use Rattle.sedacts.specs.Run.{RunState}
use Rattle.sedacts.specs.Steps.{reaches}
use Rattle.sedengine.proofs.Tasks.{appended_is_run, held_appended, held_too_long}
use Rattle.sedengine.proofs.machine.Machine.act_append_hold.Goals as goal
use Rattle.sedengine.proofs.machine.Machine.act_append_hold.Goals.{in-Ok, in-Err}

pub invariant_of-self : goal.invariant_of-self
invariant_of-self c =
    let w = c.append_line.ensures in
    appended_is_run c.self.inside c.append_line.new.self _ c.append_line.result c.self.invariant (ap (λ (e : RunState). reaches e.state.tasks) c.self.view_is ∙ c.requires) w.ok w.fits w.err

pub returns : goal.returns
returns c =
    let v = c.append_line.ensures in
    let a = c.self.inside in
    elim c.match-append_line.branch [
      | in-Ok w ↦ rw w.result-is (held_appended a c.args.self.now c.append_line.new.self c.bytes.result.now c.self.view_is c.self.invariant c.bytes.ensures.value (rw w.in-Ok.is at v.ok) (rw w.in-Ok.is at v.fits))
      | in-Err w ↦ rw w.result-is (held_too_long a c.args.self.now c.append_line.new.self c.bytes.result.now c.self.view_is c.self.invariant c.bytes.ensures.value (rw w.in-Err.is at v.err) (rw w.in-Err.is at v.full))
    ]
