use Rattle.std.proofs.Common.{rules, ap, Ok, Err}
use Rattle.std.proofs.lemmas.Result.{err_from_is_err_and}
use Rattle.sedacts.specs.Run.{RunState, run_setting}
use Rattle.sedengine.specs.Inside.{run_state_of}
use Rattle.sedengine.specs.Queueing.{flushed, with_turns}
use Rattle.sedengine.proofs.Ending.{flush_moves}
use Rattle.sedengine.proofs.Tasks.{stopped_flushing, flushed_is_run}
use Rattle.sedengine.proofs.machine.Machine.flush.Goals as goal

pub returns : goal.returns
returns g c = record {
  moves = λ files shown ls rest.
      let w = c.flush_queue.new in
      flush_moves c.self.inside c.args.self.now (run_state_of (record c.self.inside { build = w.build; turns = w.turns; queue = c.clear.new.self })) (run_setting c.args.self.now files) ls rest w.turns
      (g.O.MeteredSinks.tally c.args.outputs.now) (g.O.MeteredSinks.tally w.outputs) (Ok tt) c.self.view_is c.self.invariant (c.in_ok-flush_queue.ensures.moves (run_setting c.args.self.now files) shown)
      (rw c.clear.ensures (ap (λ (e : RunState). flushed e w.turns) c.self.view_is)) (tt {0});
  ok = rw c.clear.ensures (ap (λ (e : RunState). flushed e c.flush_queue.new.turns) c.self.view_is);
  err = tt;
  later = search rules;
  devices = c.in_ok-flush_queue.ensures.devices;
  kept = c.in_ok-flush_queue.ensures.kept;
}

pub returns-in_err-flush_queue : goal.returns-in_err-flush_queue
returns-in_err-flush_queue g c = record {
  moves = λ files shown ls rest.
      let w = c.flush_queue.new in
      let p = err_from_is_err_and c.from_residual.result c.from_residual.ensures.1 in
      rw (p.1, p.2) (flush_moves c.self.inside c.args.self.now (run_state_of (record c.self.inside { build = w.build; turns = w.turns })) (run_setting c.args.self.now files) ls rest w.turns
      (g.O.MeteredSinks.tally c.args.outputs.now) (g.O.MeteredSinks.tally w.outputs) (Err c.in_err-flush_queue.field-0.0) c.self.view_is c.self.invariant (c.in_err-flush_queue.ensures.moves (run_setting c.args.self.now files) shown)
      (tt {0}) (ap (λ (e : RunState). with_turns e w.turns) c.self.view_is));
  ok = let p = err_from_is_err_and c.from_residual.result c.from_residual.ensures.1 in
      rw p.1 tt;
  err = let p = err_from_is_err_and c.from_residual.result c.from_residual.ensures.1 in
      rw p.1 (ap (λ (e : RunState). with_turns e c.flush_queue.new.turns) c.self.view_is);
  later = search rules;
  devices = let p = err_from_is_err_and c.from_residual.result c.from_residual.ensures.1 in
      rw (p.1, p.2) c.in_err-flush_queue.ensures.devices;
  kept = c.in_err-flush_queue.ensures.kept;
}

pub flush_queue-requires : goal.flush_queue-requires
flush_queue-requires g c = record { sink = c.requires; room = c.self.invariant.copy_limit; before = c.self.invariant.turns; queued = c.self.invariant.queued }

pub invariant_of-self : goal.invariant_of-self
invariant_of-self g c = stopped_flushing c.self.inside c.flush_queue.new.build c.flush_queue.new.turns c.self.invariant c.flush_queue.ensures.limit c.flush_queue.ensures.later c.flush_queue.ensures.within

pub invariant_of-self-2 : goal.invariant_of-self-2
invariant_of-self-2 g c = flushed_is_run c.self.inside c.flush_queue.new.build c.clear.new.self c.flush_queue.new.turns c.self.invariant c.flush_queue.ensures.limit c.flush_queue.ensures.later c.flush_queue.ensures.within c.clear.ensures
