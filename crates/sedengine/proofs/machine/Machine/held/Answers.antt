use Rattle.std.proofs.Common.{length, sym, ap, ◌∙◌}
use Rattle.sedacts.specs.Run.{RunState}
use Rattle.sedacts.proofs.Queueing.{length-entries_of}
use Rattle.sedengine.proofs.machine.Machine.held.Goals as goal

pub returns-clause-pattern : goal.returns-clause-pattern
returns-clause-pattern c = c.len.ensures.value ∙ ap (λ (e : RunState). length e.state.pattern) c.self.view_is

pub returns-clause-queue : goal.returns-clause-queue
returns-clause-queue c =
    let a = c.self.inside in
    c.len-4.ensures.value ∙ sym (length-entries_of a.script a.queue.items) ∙ ap (λ (e : RunState). length e.state.queue) c.self.view_is
