use Rattle.std.proofs.Common.{[], ap}
use Rattle.sedspace.specs.Spaces.{SpaceView}
use Rattle.sedengine.specs.declared.next_step.NextStep.TheVariants as p
use Rattle.sedacts.proofs.Writing.{writes_none}
use Rattle.sedengine.proofs.Tasks.{cleared_is_run}
use Rattle.sedengine.proofs.Deleting.{acts_deleting, delete_is}
use Rattle.sedengine.proofs.machine.Machine.act_delete.Goals as goal

pub returns : goal.returns
returns g c =
    let w = c.end_cycle.ensures in
    acts_deleting c.self.inside c.args.self.now _ p.Begin c.clear.new.self [] _ c.self.view_is
    (λ files ls. delete_is c.args.self.now files ls c.clear.new.self (ap (λ (c : SpaceView). c.bytes) c.clear.ensures)) writes_none w.moves w.falls w.leaves

pub invariant_of-self : goal.invariant_of-self
invariant_of-self g c = cleared_is_run c.self.inside c.clear.new.self c.self.invariant c.clear.ensures

pub end_cycle-requires-clause-emptied : goal.end_cycle-requires-clause-emptied
end_cycle-requires-clause-emptied g c = ap (λ (c : SpaceView). c.bytes) c.clear.ensures
