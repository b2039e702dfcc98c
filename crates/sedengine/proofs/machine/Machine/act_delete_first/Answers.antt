use Rattle.std.proofs.Common.{[], refl}
use Rattle.sedengine.specs.Inside.{run_state_of}
use Rattle.sedengine.specs.declared.next_step.NextStep.TheVariants as p
use Rattle.sedacts.proofs.Writing.{writes_none}
use Rattle.sedengine.proofs.Deleting.{acts_deleting, cut_is_run, cut_seen, uncut_performs}
use Rattle.sedengine.proofs.Leaving.{falls_seen, leaves_seen}
use Rattle.sedengine.proofs.machine.Machine.act_delete_first.Goals as goal

pub returns-then-cut_line : goal.returns-then-cut_line
returns-then-cut_line g c =
    let w = c.end_cycle.ensures in
    let cut = c.cut_line.ensures.cut c.if-cut_line.true in
    acts_deleting c.self.inside c.args.self.now _ p.Rebegin c.cut_line.new.self [] _ c.self.view_is
    (λ files ls. cut_seen c.self.inside c.args.self.now files ls c.cut_line.new.self c.self.view_is cut.0 cut.1) writes_none w.moves w.falls w.leaves

pub returns-else-cut_line : goal.returns-else-cut_line
returns-else-cut_line g c =
    let w = c.act_delete.ensures in
    let whole = c.cut_line.ensures.whole c.if-cut_line.false in
    let e1 = run_state_of (record c.self.inside { pattern = c.cut_line.new.self }) in
    record {
      acts = λ files shown ls. uncut_performs c.self.inside c.args.self.now c.act_delete.new.self files ls c.cut_line.new.self _ _ c.act_delete.result c.self.view_is whole.0 whole.1 (w.acts files shown ls);
      falls = falls_seen c.self.inside c.args.self.now e1 c.act_delete.new.self c.self.view_is refl w.falls;
      leaves = leaves_seen c.self.inside c.args.self.now e1 c.self.view_is refl refl w.leaves;
    }

pub end_cycle-requires-clause-emptied : goal.end_cycle-requires-clause-emptied
end_cycle-requires-clause-emptied g c = tt

pub invariant_of-self-else-cut_line : goal.invariant_of-self-else-cut_line
invariant_of-self-else-cut_line g c = rw (c.cut_line.ensures.whole c.if-cut_line.false).1 c.self.invariant

pub invariant_of-self : goal.invariant_of-self
invariant_of-self g c = let cut = c.cut_line.ensures.cut c.if-cut_line.true in cut_is_run c.self.inside c.cut_line.new.self c.self.invariant cut.0 cut.1

pub end_cycle-requires-clause-sink : goal.end_cycle-requires-clause-sink
end_cycle-requires-clause-sink g c = c.requires
