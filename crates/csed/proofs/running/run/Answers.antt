use Rattle.std.proofs.Common.{Ok, Some, [], ap, length, rules}
use Rattle.csed.proofs.RunLemmas.{IsOutput-written, Fits-room, RunsAs-to, RunStops-as, RunStops-early}
use Rattle.csed.proofs.running.run.Goals as goal

pub deliver-requires : goal.deliver-requires
deliver-requires c =
    let ran = rw c.in-Some.ensures.0 at c.edit-ended.ensures in
    Fits-room _ _ _ _ c.in-Ok.ensures c.bytes-bytes.ensures _ _ _ _ _ _ (ap (λ l. l.output) c.with_output.ensures)
    (ran.ending c.args.input.now (ap (λ s. Some s.left.now) c.new-source.ensures) (λ k. []) (search rules))

pub returns-clause-runs : goal.returns-clause-runs
returns-clause-runs c =
    let ran = rw c.in-Some.ensures.0 at c.edit-ended.ensures in
    let given = ap (λ s. Some s.left.now) c.new-source.ensures in
    let limited = ap (λ l. l.output) c.with_output.ensures in
    rw c.outcome_of.ensures
    (RunsAs-to c.args.limits c.args.program c.args.input.now _ c.bytes-bytes.result.now c.in-Some.end _ c.deliver.ensures.front
    (λ is. IsOutput-written _ _ _ c.in-Ok.ensures c.bytes-bytes.ensures _ _
    (ran.whole (ap Ok is) c.args.input.now given (λ k. []) (search rules)))
    (λ early. RunStops-as c.args.limits c.with_output.result _ _ (length c.args.output.now) _ _ _ c.with_output.ensures (search rules)
    (RunStops-early _ _ _ _ c.in-Ok.ensures c.bytes-bytes.ensures _ _ _ _ _ _ limited early ran.input c.in-Some.ensures.1
    (ran.ending c.args.input.now given (λ k. []) (search rules)))))
