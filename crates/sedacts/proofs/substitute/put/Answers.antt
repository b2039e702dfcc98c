use Rattle.std.proofs.Common.{arith}
use Rattle.sedacts.specs.SubstituteParts.{with_groups}
use Rattle.sedacts.proofs.Due.{due_as, due_less, due_full}
use Rattle.sedacts.proofs.PieceLemmas.{within_next, put_next, wanted_next}
use Rattle.sedacts.proofs.substitute.put.Goals as goal

pub put_part-requires-clause-within : goal.put_part-requires-clause-within
put_part-requires-clause-within c =
    let l = c.loop-part in
    (within_next c.args.parts.now l.part-index c.part-item.result (omega arith) c.part-item.is l.invariant.within).0

pub put_part-requires-clause-groups_in : goal.put_part-requires-clause-groups_in
put_part-requires-clause-groups_in c =
    let l = c.loop-part in
    (wanted_next _ c.args.parts.now l.part-index c.part-item.result (omega arith) c.part-item.is l.invariant.groups_in).0

pub returns-in_err-put_part : goal.returns-in_err-put_part
returns-in_err-put_part c =
    let l = c.loop-part in
    let parts = c.args.parts.now in
    let m = with_groups c.args.span c.args.groups.now in
    let next = put_next c.args.text.now m parts l.part-index c.part-item.result (omega arith) c.part-item.is in
    let due = due_as c.args.build.now l.build _ _ _ next (l.invariant.limit, l.invariant.put) in
    due_full c.args.build.now l.build c.put_part.new.build _ _ _ c.in_err-put_part.field-0.0 c.from_residual.result
    c.from_residual.ensures.0 due c.in_err-put_part.ensures

pub loop-part-preserved : goal.loop-part-preserved
loop-part-preserved c =
    let l = c.loop-part in
    let parts = c.args.parts.now in
    let m = with_groups c.args.span c.args.groups.now in
    let next = put_next c.args.text.now m parts l.part-index c.part-item.result (omega arith) c.part-item.is in
    let due = due_as c.args.build.now l.build _ _ _ next (l.invariant.limit, l.invariant.put) in
    let less = due_less c.args.build.now l.build c.put_part.new.build _ _ _ due c.in_ok-put_part.ensures in
    record {
      limit = less.0;
      within = (within_next parts l.part-index c.part-item.result (omega arith) c.part-item.is l.invariant.within).1;
      groups_in = (wanted_next _ parts l.part-index c.part-item.result (omega arith) c.part-item.is l.invariant.groups_in).1;
      put = less.1;
    }
