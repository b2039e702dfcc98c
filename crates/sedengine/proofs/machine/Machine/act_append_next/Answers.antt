use Rattle.std.proofs.Common.{◌∷◌, true, false, Ok, Err, refl}
use Rattle.std.proofs.lemmas.Result.{err_from_is_err_and}
use Rattle.sedscript.specs.declared.types.Action.TheVariants.{Plain}
use Rattle.sedscript.specs.declared.types.Simple.TheVariants.{AppendNext}
use Rattle.sedacts.specs.State.{flush, join}
use Rattle.sedacts.specs.Move.{acts, then_do}
use Rattle.sedacts.specs.Run.{at_lines, run_setting}
use Rattle.sedacts.proofs.Streams.{lines_same}
use Rattle.sedengine.proofs.Ending.{stopped_anyway}
use Rattle.sedengine.proofs.NextLines.{flushed_steps, looked_moves, performs_then}
use Rattle.sedengine.proofs.Leaving.{falls_flushed, falls_more, falls_then, falls_turned, leaves_texts, leaves_then, leaves_unread, same_flushed, same_turned}
use Rattle.sedacts.proofs.Writing.{Delivers-quiet}
use Rattle.sedengine.proofs.machine.Machine.act_append_next.Goals as goal

pub returns : goal.returns
returns g c = record {
  acts = λ sound ls known files shown.
      let e = c.args.self.now in
      performs_then g.R.ByteSource.remaining c.args.lines.now c.join.new.lines ls e.limits (run_setting e files) (acts (run_setting e files) (at_lines e ls) true (Plain AppendNext)) false (at_lines e ls) (then_do (flush ∷ join ∷ e.state.tasks) (at_lines e ls)) c.join.new.self
      (g.O.MeteredSinks.tally c.args.outputs.now) (g.O.MeteredSinks.tally c.flush.new.outputs) c.join.result refl refl refl
      (flushed_steps g.R.ByteSource.remaining c.args.lines.now c.join.new.lines ls files (λ ts. join ∷ ts) (then_do (flush ∷ join ∷ e.state.tasks) (at_lines e ls)) e c.flush.new.self c.join.new.self
      c.flush.new.self.state.turns (g.O.MeteredSinks.tally c.args.outputs.now) (g.O.MeteredSinks.tally c.flush.new.outputs) (g.O.MeteredSinks.tally c.flush.new.outputs) c.join.result c.in_ok-flush.ensures.ok refl refl
      (c.in_ok-flush.ensures.moves files shown ls (join ∷ e.state.tasks)) (c.join.ensures.steps sound ls known files (g.O.MeteredSinks.tally c.flush.new.outputs)));
  falls = let w = c.in_ok-flush.ensures in
      falls_then (falls_flushed c.args.self.now c.flush.new.self _ w.ok w.later) c.join.ensures.falls;
  leaves = let w = c.in_ok-flush.ensures in
      let j = c.join.ensures in
      leaves_then (leaves_unread {r = Ok tt} (record { devices = w.devices; same = same_flushed c.args.self.now c.flush.new.self _ w.ok; kept = w.kept })) (leaves_texts j.reads.input (Delivers-quiet _ _ _ _ j.reads.output) j.same);
}

pub returns-in_err-flush : goal.returns-in_err-flush
returns-in_err-flush g c =
    let p = err_from_is_err_and c.from_residual.result c.from_residual.ensures.1 in
    record {
      acts = λ sound ls known files shown.
          let e = c.args.self.now in
          rw (p.1, p.2) (performs_then g.R.ByteSource.remaining c.args.lines.now c.args.lines.now ls e.limits (run_setting e files) (acts (run_setting e files) (at_lines e ls) true (Plain AppendNext)) false (at_lines e ls) (then_do (flush ∷ join ∷ e.state.tasks) (at_lines e ls)) c.flush.new.self
          (g.O.MeteredSinks.tally c.args.outputs.now) (g.O.MeteredSinks.tally c.flush.new.outputs) (Err c.in_err-flush.field-0.0) refl refl refl
          (looked_moves g.R.ByteSource.remaining c.args.lines.now c.args.lines.now ls e.limits (run_setting e files) (then_do (flush ∷ join ∷ e.state.tasks) (at_lines e ls)) c.flush.new.self _ _ (Err c.in_err-flush.field-0.0)
          (lines_same g.R.ByteSource.remaining c.args.lines.now ls known) refl
          (stopped_anyway _ _ _ c.flush.new.self ls (join ∷ e.state.tasks) _ _ c.in_err-flush.field-0.0 (c.in_err-flush.ensures.moves files shown ls (join ∷ e.state.tasks)))));
      falls = let w = c.in_err-flush.ensures in
          falls_more (falls_turned c.args.self.now c.flush.new.self _ w.err w.later);
      leaves = let w = c.in_err-flush.ensures in
          rw (p.1, p.2) (leaves_unread {r = Err c.in_err-flush.field-0.0} (record { devices = w.devices; same = same_turned c.args.self.now c.flush.new.self _ w.err; kept = w.kept }));
    }
