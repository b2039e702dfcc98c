use Rattle.std.proofs.Common.{Err, ap}
use Rattle.sedengine.proofs.Leaving.{leaves_none, leaves_texts, leaves_then}
use Rattle.sedacts.proofs.Streams.{ReadsLines-then}
use Rattle.sedengine.proofs.Runs.{Reached-none, SameRun-then, step_on, stop_on}
use Rattle.sedengine.proofs.PassingRuns.{pass_on, pass_stop}
use Rattle.sedacts.proofs.Entries.{gives_on}
use Rattle.sedengine.proofs.machine.Machine.run.Goals as goal

pub moves-init : goal.moves-init
moves-init g c = record {
  leaves = leaves_none;
  reached = λ sound ls known files shown.
      Reached-none _ _ _ _ c.args.self.now ls _ known (c.is_within_limits.ensures ls);
}

pub returns-in-Err : goal.returns-in-Err
returns-in-Err g c = record {
  runs = λ sound ls known files shown.
      let h = c.moves.invariant in
      let r = h.reached sound ls known files shown in
      let input = ReadsLines-then _ _ _ _ _ _ _ h.leaves.input c.in-Err.ensures.input in
      pass_stop g.R.ByteSource.remaining c.args.lines.now c.moves.lines c.pass_over.new.lines files c.args.self.now _ c.moves.self _ _ _ h.leaves.same r c.pass_over.new.self c.in-Err.end
      (c.in-Err.ensures.steps r.rest r.taken.known files) input.shrinks input.ahead c.requires.look (λ is. input.broken (ap Err is) sound);
  leaves = leaves_then c.moves.invariant.leaves (leaves_texts c.in-Err.ensures.input c.in-Err.ensures.output c.in-Err.ensures.same);
}

pub returns-in-Err-step : goal.returns-in-Err-step
returns-in-Err-step g c = record {
  runs = λ sound ls known files shown.
      let h = c.moves.invariant in
      let r = h.reached sound ls known files shown in
      let passed = ReadsLines-then _ _ _ _ _ _ _ h.leaves.input c.in_default.ensures.input in
      let input = ReadsLines-then _ _ _ _ _ _ _ passed c.in-Err-step.ensures.leaves.input in
      let there = pass_on g.R.ByteSource.remaining c.args.lines.now c.moves.lines c.pass_over.new.lines files c.args.self.now _ c.moves.self _ _ _ h.leaves.same r c.pass_over.new.self (c.in_default.ensures.steps r.rest r.taken.known files) in
      stop_on g.R.ByteSource.remaining c.args.lines.now c.pass_over.new.lines c.step.new.lines files c.args.self.now _ c.pass_over.new.self _ _ _ (SameRun-then h.leaves.same c.in_default.ensures.same) there c.step.new.self c.in-Err-step.end
      (c.in-Err-step.ensures.steps (passed.sound sound) there.rest there.taken.known files (gives_on _ _ files shown h.leaves.kept)) input.shrinks input.ahead c.requires.look (λ is. input.broken (ap Err is) sound);
  leaves = leaves_then (leaves_then c.moves.invariant.leaves (leaves_texts c.in_default.ensures.input c.in_default.ensures.output c.in_default.ensures.same)) c.in-Err-step.ensures.leaves;
}

pub moves-preserved : goal.moves-preserved
moves-preserved g c =
    let h = c.moves.invariant in
    let passed = leaves_then h.leaves (leaves_texts c.in_default.ensures.input c.in_default.ensures.output c.in_default.ensures.same) in
    record {
      leaves = leaves_then passed c.in_default-step.ensures.leaves;
      reached = λ sound ls known files shown.
          let r = h.reached sound ls known files shown in
          let there = pass_on g.R.ByteSource.remaining c.args.lines.now c.moves.lines c.pass_over.new.lines files c.args.self.now _ c.moves.self _ _ _ h.leaves.same r c.pass_over.new.self (c.in_default.ensures.steps r.rest r.taken.known files) in
          step_on g.R.ByteSource.remaining c.args.lines.now c.pass_over.new.lines c.step.new.lines files c.args.self.now _ c.pass_over.new.self _ _ _ passed.same there c.step.new.self
          (c.in_default-step.ensures.steps (passed.input.sound sound) there.rest there.taken.known files (gives_on _ _ files shown h.leaves.kept));
    }
