use Rattle.std.proofs.Common.{[], true, false, ap, arith, refl}
use Rattle.std.proofs.lemmas.Result.{err_from_is_err_and}
use Rattle.sedspace.specs.Spaces.{SpaceView}
use Rattle.sedengine.specs.declared.next_step.NextStep.TheVariants as p
use Rattle.sedacts.proofs.Writing.{writes_none}
use Rattle.sedengine.proofs.Deleting.{acts_deleting, change_is, change_stops, text_put}
use Rattle.sedengine.specs.Inside.{run_state_of}
use Rattle.sedengine.proofs.Tasks.{cleared_is_run}
use Rattle.sedengine.proofs.Leaving.{falls_more, falls_kept, leaves_seen, leaves_written}
use Rattle.sedengine.proofs.machine.Machine.act_change.Goals as goal

pub returns-then-not-writes_text : goal.returns-then-not-writes_text
returns-then-not-writes_text g c =
    let w = c.end_cycle.ensures in
    let none = ap (λ (c : SpaceView). c.bytes) c.clear.ensures in
    acts_deleting c.self.inside c.args.self.now _ p.Begin c.clear.new.self [] _ c.self.view_is
    (λ files ls. change_is c.args.self.now files ls c.args.text c.args.writes_text false c.clear.new.self none c.if-not-writes_text.true) writes_none w.moves w.falls w.leaves

pub returns : goal.returns
returns g c =
    let w = c.end_cycle-2.ensures in
    let none = ap (λ (c : SpaceView). c.bytes) c.clear.ensures in
    acts_deleting c.self.inside c.args.self.now _ p.Begin c.clear.new.self _ _ c.self.view_is
    (λ files ls. change_is c.args.self.now files ls c.args.text c.args.writes_text true c.clear.new.self none c.if-not-writes_text.false)
    (text_put c.self.inside c.args.self.now c.args.text _ c.self.view_is c.text.ensures c.in_ok-write_line.ensures) w.moves w.falls w.leaves

pub returns-in_err-write_line : goal.returns-in_err-write_line
returns-in_err-write_line g c =
    let e = c.args.self.now in
    let none = ap (λ (c : SpaceView). c.bytes) c.clear.ensures in
    let e1 = run_state_of (record c.self.inside { pattern = c.clear.new.self }) in
    let p = err_from_is_err_and c.from_residual.result c.from_residual.ensures.1 in
    rw (p.1, p.2) (record {
      acts = λ files shown ls. change_stops c.self.inside e files ls _ c.clear.new.self _ _ _ c.in_err-write_line.field-0.0 c.self.view_is c.self.invariant none
          (change_is e files ls c.args.text c.args.writes_text true c.clear.new.self none c.if-not-writes_text.false) (text_put c.self.inside e c.args.text _ c.self.view_is c.text.ensures c.in_err-write_line.ensures).puts;
      falls = falls_more (falls_kept c.self.inside e e1 e1 c.self.view_is refl (omega arith));
      leaves = leaves_seen c.self.inside e e1 c.self.view_is refl refl (leaves_written c.in_err-write_line.ensures);
    })

pub invariant_of-self : goal.invariant_of-self
invariant_of-self g c = cleared_is_run c.self.inside c.clear.new.self c.self.invariant c.clear.ensures

pub invariant_of-self-2 : goal.invariant_of-self-2
invariant_of-self-2 g c = cleared_is_run c.self.inside c.clear.new.self c.self.invariant c.clear.ensures

pub invariant_of-self-in_err-write_line : goal.invariant_of-self-in_err-write_line
invariant_of-self-in_err-write_line g c = cleared_is_run c.self.inside c.clear.new.self c.self.invariant c.clear.ensures

pub end_cycle-requires-clause-emptied : goal.end_cycle-requires-clause-emptied
end_cycle-requires-clause-emptied g c = ap (λ (c : SpaceView). c.bytes) c.clear.ensures

pub end_cycle-requires-2-clause-emptied : goal.end_cycle-requires-2-clause-emptied
end_cycle-requires-2-clause-emptied g c = ap (λ (c : SpaceView). c.bytes) c.clear.ensures
