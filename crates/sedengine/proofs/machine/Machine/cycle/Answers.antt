use Rattle.std.proofs.Common.{◌∙◌, Err, sym, ap, arith}
use Rattle.sedacts.specs.State.{MachineState}
use Rattle.sedacts.specs.Run.{at_lines, run_setting, starts_cycle}
use Rattle.sedengine.proofs.Leaving.{leaves_none, leaves_then}
use Rattle.sedacts.proofs.Streams.{ReadsLines-then}
use Rattle.sedacts.proofs.Moves.{InOneCycle-more}
use Rattle.sedengine.proofs.Runs.{Reached, Reached-none, step_on, stop_on, one_on, some_on, one_stop, cycled}
use Rattle.sedacts.proofs.Entries.{gives_on}
use Rattle.sedengine.proofs.machine.Machine.cycle.Goals as goal

pub moves-init : goal.moves-init
moves-init g c = record {
  leaves = leaves_none;
  reached = λ sound ls known files shown.
      (Reached-none _ _ _ _ c.args.self.now ls _ known (c.is_within_limits.ensures ls), λ k some lt. absurd (omega arith));
}

pub returns-in-Err : goal.returns-in-Err
returns-in-Err g c = record {
  runs = λ sound ls known files shown.
      let h = c.moves.invariant in
      let reached = h.reached sound ls known files shown in
      let r = reached.0 in
      let input = ReadsLines-then _ _ _ _ _ _ _ h.leaves.input c.in-Err.ensures.leaves.input in
      let stop = c.in-Err.ensures.steps (h.leaves.input.sound sound) r.rest r.taken.known files (gives_on _ _ files shown h.leaves.kept) in
      let stopped = stop_on g.R.ByteSource.remaining c.args.lines.now c.moves.lines c.step.new.lines files c.args.self.now _ c.moves.self _ _ _ h.leaves.same r c.step.new.self c.in-Err.end stop input.shrinks input.ahead c.requires.look (λ is. input.broken (ap Err is) sound) in
      let one = one_stop g.R.ByteSource.remaining c.args.lines.now c.moves.lines c.step.new.lines files c.args.self.now _ c.moves.self _ _ _ h.leaves.same r c.step.new.self c.in-Err.end stop reached.1 in
      (stopped.0, stopped.1, record { ending = stopped.2; one = one });
  leaves = leaves_then c.moves.invariant.leaves c.in-Err.ensures.leaves;
}

pub returns-then-at_start : goal.returns-then-at_start
returns-then-at_start g c = record {
  runs = λ sound ls known files shown.
      let h = c.moves.invariant in
      let reached = h.reached sound ls known files shown in
      let r = reached.0 in
      let input = ReadsLines-then _ _ _ _ _ _ _ h.leaves.input c.in_default.ensures.leaves.input in
      let ran = c.in_default.ensures.steps (h.leaves.input.sound sound) r.rest r.taken.known files (gives_on _ _ files shown h.leaves.kept) in
      let next : Reached g.R.ByteSource.remaining c.args.lines.now c.step.new.lines _ (run_setting c.args.self.now files) (at_lines c.args.self.now ls) c.step.new.self _ _ =
      step_on g.R.ByteSource.remaining c.args.lines.now c.moves.lines c.step.new.lines files c.args.self.now _ c.moves.self _ _ _ h.leaves.same r c.step.new.self ran in
      let one = one_on g.R.ByteSource.remaining c.args.lines.now c.moves.lines c.step.new.lines files c.args.self.now _ c.moves.self _ _ _ h.leaves.same r c.step.new.self ran reached.1 in
      let some = some_on g.R.ByteSource.remaining c.args.lines.now c.moves.lines c.step.new.lines files c.args.self.now _ c.moves.self _ _ _ h.leaves.same r c.step.new.self ran in (
        _,
        next.gained,
        cycled g.R.ByteSource.remaining c.args.lines.now c.step.new.lines _ _ _ c.step.new.self _ _ next some one (sym c.at_start.ensures ∙ c.if-at_start.true)
            input.shrinks input.ahead c.requires.look,
      );
  leaves = leaves_then c.moves.invariant.leaves c.in_default.ensures.leaves;
}

pub moves-preserved : goal.moves-preserved
moves-preserved g c =
    let h = c.moves.invariant in
    record {
      leaves = leaves_then h.leaves c.in_default.ensures.leaves;
      reached = λ sound ls known files shown.
          let reached = h.reached sound ls known files shown in
          let r = reached.0 in
          let ran = c.in_default.ensures.steps (h.leaves.input.sound sound) r.rest r.taken.known files (gives_on _ _ files shown h.leaves.kept) in
          let next : Reached g.R.ByteSource.remaining c.args.lines.now c.step.new.lines _ (run_setting c.args.self.now files) (at_lines c.args.self.now ls) c.step.new.self _ _ =
          step_on g.R.ByteSource.remaining c.args.lines.now c.moves.lines c.step.new.lines files c.args.self.now _ c.moves.self _ _ _ h.leaves.same r c.step.new.self ran in
          let one = one_on g.R.ByteSource.remaining c.args.lines.now c.moves.lines c.step.new.lines files c.args.self.now _ c.moves.self _ _ _ h.leaves.same r c.step.new.self ran reached.1 in
          (next, InOneCycle-more _ _ next.t one (ap (λ (s : MachineState). starts_cycle s.tasks) next.is ∙ sym c.at_start.ensures ∙ c.if-at_start.false));
    }
