use Rattle.std.proofs.Common.{[], cond, Ok, Err, refl}
use Rattle.std.proofs.KnownBytes.{Keeps-refl}
use Rattle.sedacts.proofs.DecidingGroups.{le_same}
use Rattle.std.proofs.lemmas.Result.{err_from_is_err_and}
use Rattle.sedacts.specs.Move.{line_to}
use Rattle.sedacts.specs.Run.{RunState}
use Rattle.sedacts.proofs.Writing.{Delivers-then, writes_alone}
use Rattle.sedengine.proofs.Ending.{fits_seen, print_moves, print_stops, writes_seen}
use Rattle.sedengine.proofs.machine.Machine.print_and_flush.Goals as goal

pub returns : goal.returns
returns g c = record {
  moves = λ files shown ls rest.
      let old = g.O.MeteredSinks.tally c.args.outputs.now in
      let mid = g.O.MeteredSinks.tally c.print_by_default.new.outputs in
      print_moves c.args.self.now c.flush.new.self files ls rest old mid (g.O.MeteredSinks.tally c.flush.new.outputs) c.flush.result (fits_seen c.self.inside c.args.self.now ls c.self.view_is c.self.invariant)
      (writes_seen {r = Ok tt} c.self.inside c.args.self.now (λ (e : RunState). cond e.script.quiet [] (line_to 0 e.state.pattern)) c.self.view_is c.in_ok-print_by_default.ensures).puts (c.flush.ensures.moves files shown ls rest);
  ok = c.flush.ensures.ok;
  err = c.flush.ensures.err;
  later = c.flush.ensures.later;
  devices = let w = c.flush.ensures.devices in
      record { output = Delivers-then _ _ _ _ _ _ c.in_ok-print_by_default.ensures.devices w.output; input = w.input };
  kept = c.flush.ensures.kept;
}

pub returns-in_err-print_by_default : goal.returns-in_err-print_by_default
returns-in_err-print_by_default g c =
    let p = err_from_is_err_and c.from_residual.result c.from_residual.ensures.1 in
    record {
      moves = λ files shown ls rest.
          let old = g.O.MeteredSinks.tally c.args.outputs.now in
          let new = g.O.MeteredSinks.tally c.print_by_default.new.outputs in
          rw (p.1, p.2) (print_stops c.args.self.now files ls rest old new c.in_err-print_by_default.field-0.0 (fits_seen c.self.inside c.args.self.now ls c.self.view_is c.self.invariant)
          (writes_seen {r = Err c.in_err-print_by_default.field-0.0} c.self.inside c.args.self.now (λ (e : RunState). cond e.script.quiet [] (line_to 0 e.state.pattern)) c.self.view_is c.in_err-print_by_default.ensures).puts);
      ok = rw p.1 tt;
      err = rw p.1 refl;
      later = le_same;
      devices = rw (p.1, p.2) (writes_alone {r = Err c.in_err-print_by_default.field-0.0} c.in_err-print_by_default.ensures);
      kept = λ j. Keeps-refl _;
    }
