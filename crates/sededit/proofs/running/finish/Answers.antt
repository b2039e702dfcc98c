use Rattle.std.proofs.Common.{inl, inr, refl, rules}
use Rattle.sededit.proofs.RunLemmas.{flush_rises}
use Rattle.sededit.proofs.running.finish.Goals as goal

pub returns-in-Done-Ok-clause-finishes : goal.returns-in-Done-Ok-clause-finishes
returns-in-Done-Ok-clause-finishes g c = inl (c.in-Done-Ok.is-0, c.in-Done-Ok.ensures.failed, inr (c.if-has_missed.true, refl))

pub returns-in-Done-Ok-2-clause-finishes : goal.returns-in-Done-Ok-2-clause-finishes
returns-in-Done-Ok-2-clause-finishes g c = inl (c.in-Done-Ok.is-0, c.in-Done-Ok.ensures.failed, inl (c.if-has_missed.false, refl))

pub returns-in-Done-Err-clause-finishes : goal.returns-in-Done-Err-clause-finishes
returns-in-Done-Err-clause-finishes g c =
    let failed = c.in-Done-Err.ensures.failed in
    inr (c.stopped.ensures, failed.1, inr (c.in-Done-Err.is-0, (c.in-Done-Err.sink, failed.0)))

pub returns-in_default-clause-finishes : goal.returns-in_default-clause-finishes
returns-in_default-clause-finishes g c = inr (c.stopped-in_default.ensures, flush_rises _ _ _ c.flush.ensures.failed, inl (search rules))
