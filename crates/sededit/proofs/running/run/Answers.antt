use Rattle.std.proofs.Common.{refl, rules}
use Rattle.sedfiles.proofs.JoinLemmas.{left-StillGives}
use Rattle.sededit.proofs.RunLemmas.{Ran-as, Ran-finished}
use Rattle.sededit.proofs.running.run.Goals as goal

pub returns-in-Ok-edited-clause-ran : goal.returns-in-Ok-edited-clause-ran
returns-in-Ok-edited-clause-ran g c =
    let e = rw c.in-Ok-edited.is at c.edit_ahead-edited.ensures in
    let j = c.edit_ahead-edited.new.source in
    let contents = g.O.Outputs.contents in
    let failures = g.O.Outputs.failures in
    let mid = c.edit_ahead-edited.new.outputs in
    Ran-as _ _ _ _ _ _ _ _ _ _ _ _ _ _ _ _ _ _ _ (search rules) (search rules) (search rules) (search rules) (search rules)
    (Ran-finished c.args.task.limits c.args.task.script _ _ (g.T.Texts.text c.args.texts.now) (contents c.args.sinks.now) (contents mid) (contents c.finish.new.sinks)
    (failures c.args.sinks.now) (failures mid) (failures c.finish.new.sinks) _ _ _ _ _ c.in-Ok-edited.edited.end _ e.edits c.finish.ensures.contents e.input e.failed
    (left-StillGives g.I.Inputs.current g.I.Inputs.ahead (record { inputs = j.inputs.now; names = j.names; is_reading = j.is_reading; due = j.due; missed = j.missed; start = j.start }) _ _ (search rules) refl)
    c.close-has_missed.result _ c.finish.ensures.finishes c.close-has_missed.ensures)
