use Rattle.std.proofs.Common.{◌∷◌, true, Ok, Err, refl}
use Rattle.std.proofs.lemmas.Result.{err_from_is_err_and}
use Rattle.sedacts.specs.State.{print_pattern, flush, empty_pattern, fetch}
use Rattle.sedacts.specs.Move.{then_do}
use Rattle.sedacts.specs.Run.{at_lines, run_setting}
use Rattle.sedengine.specs.Fetching.{next_line}
use Rattle.sedacts.proofs.Streams.{ReadsAlone-ended, ReadsAlone-shown, ReadsLines-then, ReadsLines-shown, ReadsLines-unread}
use Rattle.sedacts.proofs.Writing.{Delivers-then, Delivers-quiet}
use Rattle.sedengine.specs.declared.next_step.NextStep.TheVariants as p
use Rattle.sedengine.proofs.Ending.{falls_going, stopped_anyway}
use Rattle.sedengine.proofs.NextLines.{flushed_steps, looked_moves, looked_then, next_broken, next_goes, next_stops, performs_then}
use Rattle.sedengine.proofs.Leaving.{falls_flushed, falls_more, falls_none, falls_then, falls_turned, leaves_texts, same_flushed, same_turned}
use Rattle.sedengine.proofs.Runs.{SameRun-then, same_seen}
use Rattle.sedengine.proofs.machine.Machine.act_next_line.Goals as goal

pub returns-then-branch : goal.returns-then-branch
returns-then-branch g c = record {
  acts = λ sound ls known files shown.
      let w = c.in_ok-is_last.ensures in
      next_stops g.R.ByteSource.remaining c.args.lines.now c.is_last.new.lines ls files c.self.inside c.args.self.now (g.O.MeteredSinks.tally c.args.outputs.now) c.in_ok-is_last.field-0 c.self.view_is c.self.invariant (w.reads.left ls known) (w.last sound ls known) c.if-branch.true;
  falls = falls_going c.self.inside c.args.self.now p.WriteLast c.self.view_is;
  leaves = let w = ReadsAlone-shown c.in_ok-is_last.field-0 c.in_ok-is_last.ensures.reads.alone in
      leaves_texts w.input (Delivers-quiet _ _ _ (Ok tt) tt) (same_seen c.self.inside c.args.self.now _ c.self.view_is refl refl);
}

pub returns : goal.returns
returns g c = record {
  acts = λ sound ls known files shown.
      let w = c.in_ok-is_last.ensures in
      let e = c.args.self.now in
      let taken = w.reads.left ls known in
      let due = then_do (print_pattern ∷ flush ∷ empty_pattern ∷ fetch ∷ e.state.tasks) (at_lines e ls) in
      performs_then g.R.ByteSource.remaining c.args.lines.now c.fetch.new.lines ls e.limits (run_setting e files) (next_line (at_lines e ls)) true (at_lines e ls) due c.fetch.new.self _ _ c.fetch.result
      (next_goes e e files ls c.in_ok-is_last.field-0 (w.last sound ls known) c.if-branch.false) refl refl
      (looked_then g.R.ByteSource.remaining c.args.lines.now c.is_last.new.lines c.fetch.new.lines ls e.limits (run_setting e files) _ c.fetch.new.self _ _ c.fetch.result taken
      (flushed_steps g.R.ByteSource.remaining c.is_last.new.lines c.fetch.new.lines ls files (λ ts. empty_pattern ∷ fetch ∷ ts) due e c.print_and_flush.new.self c.fetch.new.self
      c.print_and_flush.new.self.state.turns _ _ _ c.fetch.result c.in_ok-print_and_flush.ensures.ok refl refl
      (c.in_ok-print_and_flush.ensures.moves files shown ls (empty_pattern ∷ fetch ∷ e.state.tasks)) (c.fetch.ensures.steps (w.reads.alone.input.sound sound) ls taken.known files (g.O.MeteredSinks.tally c.print_and_flush.new.outputs))));
  falls = let w = c.in_ok-print_and_flush.ensures in
      falls_then (falls_flushed c.args.self.now c.print_and_flush.new.self _ w.ok w.later) c.fetch.ensures.falls;
  leaves = record {
    input = ReadsLines-then _ _ _ _ _ _ _ (ReadsLines-shown _ _ _ _ _ _ c.in_ok-is_last.ensures.reads.alone.input) c.fetch.ensures.reads.input;
    output = Delivers-then _ _ _ _ _ _ c.in_ok-print_and_flush.ensures.devices.output (Delivers-quiet _ _ _ _ c.fetch.ensures.reads.output);
    same = SameRun-then (same_flushed c.args.self.now c.print_and_flush.new.self _ c.in_ok-print_and_flush.ensures.ok) c.fetch.ensures.same;
    kept = c.in_ok-print_and_flush.ensures.kept;
  };
}

pub returns-in_err-print_and_flush : goal.returns-in_err-print_and_flush
returns-in_err-print_and_flush g c =
    let q = err_from_is_err_and c.from_residual-in_err-print_and_flush.result c.from_residual-in_err-print_and_flush.ensures.1 in
    record {
      acts = λ sound ls known files shown.
          let w = c.in_ok-is_last.ensures in
          let e = c.args.self.now in
          let end = c.in_err-print_and_flush.field-0.0 in
          let due = then_do (print_pattern ∷ flush ∷ empty_pattern ∷ fetch ∷ e.state.tasks) (at_lines e ls) in
          rw (q.1, q.2) (performs_then g.R.ByteSource.remaining c.args.lines.now c.is_last.new.lines ls e.limits (run_setting e files) (next_line (at_lines e ls)) true (at_lines e ls) due c.print_and_flush.new.self _ _ (Err end)
          (next_goes e e files ls c.in_ok-is_last.field-0 (w.last sound ls known) c.if-branch.false) refl refl
          (looked_moves g.R.ByteSource.remaining c.args.lines.now c.is_last.new.lines ls e.limits (run_setting e files) due c.print_and_flush.new.self _ _ (Err end) (w.reads.left ls known) refl
          (stopped_anyway _ _ _ c.print_and_flush.new.self ls (empty_pattern ∷ fetch ∷ e.state.tasks) _ _ end (c.in_err-print_and_flush.ensures.moves files shown ls (empty_pattern ∷ fetch ∷ e.state.tasks)))));
      falls = let w = c.in_err-print_and_flush.ensures in
          falls_more (falls_turned c.args.self.now c.print_and_flush.new.self _ w.err w.later);
      leaves = let w = c.in_err-print_and_flush.ensures in
          let input = ReadsLines-shown _ _ _ _ _ _ c.in_ok-is_last.ensures.reads.alone.input in
          rw (q.1, q.2) (record { input = ReadsLines-then _ _ _ _ _ _ _ input (ReadsLines-unread _ _ _ _ _ w.devices.input); output = w.devices.output; same = same_turned c.args.self.now c.print_and_flush.new.self _ w.err; kept = w.kept });
    }

pub returns-in_err-is_last : goal.returns-in_err-is_last
returns-in_err-is_last g c =
    let q = err_from_is_err_and c.from_residual.result c.from_residual.ensures.1 in
    record {
      acts = λ sound ls known files shown.
          let w = c.in_err-is_last.ensures in
          let e = c.args.self.now in
          rw (q.1, q.2) (next_broken g.R.ByteSource.remaining c.args.lines.now c.is_last.new.lines ls (run_setting e files) (next_line (at_lines e ls)) e (g.O.MeteredSinks.tally c.args.outputs.now) c.in_err-is_last.field-0.0 (w.reads.left ls known) (w.last sound ls known));
      falls = falls_none;
      leaves = let w = ReadsAlone-ended c.in_err-is_last.field-0.0 c.in_err-is_last.ensures.reads.alone in
          rw (q.1, q.2) (leaves_texts w.input (Delivers-quiet _ _ _ _ w.output) (record { script = refl; same_limits = refl }));
    }
