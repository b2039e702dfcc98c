use Rattle.sedengine.proofs.Ending.{full_seen, queue_is_run, queued_seen, queues_seen}
use Rattle.sedengine.proofs.machine.Machine.act_queue.Goals as goal
use Rattle.sedengine.proofs.machine.Machine.act_queue.Goals.{in-Ok, in-Err}

pub invariant_of-self : goal.invariant_of-self
invariant_of-self c =
    let w = c.push.ensures in
    queue_is_run c.self.inside c.push.new.self c.args.k c.push.result c.self.invariant (queues_seen c.self.inside c.args.self.now c.args.k c.self.view_is c.requires) w.ok w.fits w.err

pub returns : goal.returns
returns c =
    let v = c.push.ensures in
    let a = c.self.inside in
    elim c.match-push.branch [
      | in-Ok w ↦ rw w.result-is (queued_seen a c.args.self.now c.push.new.self c.args.k c.self.view_is c.self.invariant (rw w.in-Ok.is at v.ok) (rw w.in-Ok.is at v.fits))
      | in-Err w ↦ rw w.result-is (full_seen a c.args.self.now c.push.new.self c.args.k c.self.view_is c.self.invariant (rw w.in-Err.is at v.err) (rw w.in-Err.is at v.full))
    ]
