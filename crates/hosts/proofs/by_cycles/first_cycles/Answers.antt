use Rattle.std.proofs.Common.{◌∙◌, ap, arith, length, sym}
use Rattle.hosts.proofs.by_cycles.first_cycles.Goals as goal

pub loop-cycle-preserved : goal.loop-cycle-preserved
loop-cycle-preserved g c =
    let e = c.cycle.ensures in
    let h = c.loop-cycle.invariant in
    (e.same_devices.0.1 ∙ h.0 ∙ sym (ap (λ l. l.look) e.same_run.same_limits), omega (arith, h.1, e.same_devices.1, ap (λ s. length s.wfiles) e.same_run.script))
