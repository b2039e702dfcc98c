use Rattle.std.proofs.Common.{ap, Ok, refl, sym, ◌∙◌, arith, subst}
use Rattle.std.proofs.KnownBytes.{Keeps-refl}
use Rattle.std.proofs.lemmas.Result.{err_from_is_err_and}
use Rattle.sedacts.specs.Run.{RunState}
use Rattle.sedacts.specs.Steps.{reaches}
use Rattle.sedengine.proofs.Leaving.{falls_passed, falls_reached, leaves_stopped, leaves_unread, same_passed, same_reached}
use Rattle.sedengine.proofs.Runs.{SameRun-then}
use Rattle.sedacts.proofs.Writing.{Delivers-none, Delivers-unwritten}
use Rattle.sedacts.proofs.Streams.{names_spent, ReadsLines-ended, ReadsLines-then, ReadsLines-shown}
use Rattle.sedengine.proofs.Tasks.{steps_by_moves}
use Rattle.sedengine.proofs.Acts.{reached_number, turn_left, steps_spent, reach_stopping, reach_acting, reach_passing, some_sink, command_there, action_there}
use Rattle.sedscript.specs.Ranges.{CommandWithin}
use Rattle.sedscript.specs.Script.{ActionWithin}
use Rattle.sedengine.proofs.machine.Machine.reach.Goals as goal

pub returns-then-k-len : goal.returns-then-k-len
returns-then-k-len g c = record {
  steps = λ sound ls known files shown.
      steps_by_moves g.R.ByteSource.remaining c.args.lines.now ls _ _ c.args.self.now c.finish.new.self _ _ _ known (c.finish.ensures.moves files shown ls);
  falls = c.finish.ensures.falls;
  leaves = leaves_unread c.finish.ensures.leaves;
}

pub returns-then-self-turns : goal.returns-then-self-turns
returns-then-self-turns g c = record {
  steps = λ sound ls known files shown.
      steps_spent g.R.ByteSource.remaining c.args.lines.now c.self.inside c.args.self.now c.self.view_is c.self.invariant files ls known _ c.args.k c.requires.at (omega arith) (c.if-self-turns.true ∙ c.turns.ensures);
  falls = tt;
  leaves = leaves_unread (leaves_stopped names_spent);
}

pub returns-in_err-choice : goal.returns-in_err-choice
returns-in_err-choice g c =
    let p = err_from_is_err_and c.from_residual.result c.from_residual.ensures.1 in
    record {
      steps = λ sound ls known files shown.
          rw (p.1, p.2) (reach_stopping g.R.ByteSource.remaining c.args.lines.now c.judge.new.lines c.self.inside c.args.self.now c.self.view_is c.self.invariant files ls c.args.k c.command.result.now
          c.requires.at c.command.ensures.is (λ e. c.if-self-turns.false (e ∙ sym c.turns.ensures)) (c.in_err-choice.ensures.reads.left ls known)
          (g.O.MeteredSinks.tally c.args.outputs.now) c.judge.new.self.state.used c.in_err-choice.field-0.0 c.judge.new.self c.in_err-choice.ensures.reaches (c.in_err-choice.ensures.judges sound ls known));
      falls = rw p.1 tt;
      leaves = rw (p.1, p.2) (record {
        input = ReadsLines-ended _ _ _ _ _ _ c.in_err-choice.ensures.reads.alone.input;
        output = Delivers-unwritten _ _ _ c.in_err-choice.field-0.0 c.in_err-choice.ensures.reads.alone.output;
        same = rw c.in_err-choice.ensures.reaches (record { script = refl; same_limits = refl });
        kept = λ j. Keeps-refl _;
      });
    }

pub returns-then-choice : goal.returns-then-choice
returns-then-choice g c = record {
  steps = λ sound ls known files shown.
      let w = c.in_ok-choice.ensures in
      let taken = w.reads.left ls known in
      reach_acting g.R.ByteSource.remaining c.args.lines.now c.judge.new.lines c.self.inside c.args.self.now c.self.view_is c.self.invariant files ls c.args.k c.command.result.now
      c.requires.at c.command.ensures.is (λ e. c.if-self-turns.false (e ∙ sym c.turns.ensures)) taken
      c.in_ok-choice.choice c.judge.new.self.state.used c.judge.new.self c.act.new.self (w.judges sound ls known) w.reaches
      c.act.new.lines _ _ _ c.writes_text.result c.if-choice.true c.writes_text.ensures (c.act.ensures.acts (w.reads.alone.input.sound sound) ls taken.known files shown);
  falls = falls_reached c.args.self.now c.judge.new.self c.act.new.self c.args.k _ _ c.act.result c.in_ok-choice.ensures.reaches c.requires.at
      (turn_left c.self.inside c.args.self.now c.self.view_is c.self.invariant (λ e. c.if-self-turns.false (e ∙ sym c.turns.ensures))) c.act.ensures.falls;
  leaves = record {
    input = ReadsLines-then _ _ _ _ _ _ _ (ReadsLines-shown _ _ _ _ _ _ c.in_ok-choice.ensures.reads.alone.input) c.act.ensures.leaves.input;
    output = c.act.ensures.leaves.output;
    same = SameRun-then (same_reached c.args.self.now c.judge.new.self c.args.k _ _ c.in_ok-choice.ensures.reaches) c.act.ensures.leaves.same;
    kept = c.act.ensures.leaves.kept;
  };
}

pub returns-else-choice : goal.returns-else-choice
returns-else-choice g c = record {
  steps = λ sound ls known files shown.
      reach_passing g.R.ByteSource.remaining c.args.lines.now c.judge.new.lines c.self.inside c.args.self.now c.self.view_is c.self.invariant files ls c.args.k c.command.result.now
      c.requires.at c.command.ensures.is (λ e. c.if-self-turns.false (e ∙ sym c.turns.ensures)) (c.in_ok-choice.ensures.reads.left ls known)
      c.in_ok-choice.choice c.judge.new.self.state.used c.judge.new.self c.pass.new.self (c.in_ok-choice.ensures.judges sound ls known) c.in_ok-choice.ensures.reaches
      _ c.if-choice.false c.pass.ensures;
  falls = falls_reached c.args.self.now c.judge.new.self c.pass.new.self c.args.k _ _ (Ok tt) c.in_ok-choice.ensures.reaches c.requires.at
      (turn_left c.self.inside c.args.self.now c.self.view_is c.self.invariant (λ e. c.if-self-turns.false (e ∙ sym c.turns.ensures))) (falls_passed c.judge.new.self c.pass.new.self c.command.result.now.action c.pass.ensures);
  leaves = record {
    input = ReadsLines-shown _ _ _ _ _ _ c.in_ok-choice.ensures.reads.alone.input;
    output = Delivers-none _ _ _;
    same = SameRun-then (same_reached c.args.self.now c.judge.new.self c.args.k _ _ c.in_ok-choice.ensures.reaches) (same_passed c.judge.new.self c.pass.new.self c.command.result.now.action c.pass.ensures);
    kept = λ j. Keeps-refl _;
  };
}

pub act-requires-clause-number : goal.act-requires-clause-number
act-requires-clause-number g c = reached_number c.self.inside c.args.self.now c.judge.new.self c.args.k _ _ c.self.view_is c.self.invariant c.in_ok-choice.ensures.reaches

pub act-requires-clause-at : goal.act-requires-clause-at
act-requires-clause-at g c = ap (λ (e : RunState). reaches e.state.tasks) c.in_ok-choice.ensures.reaches

pub finish-requires-clause-at : goal.finish-requires-clause-at
finish-requires-clause-at g c = c.requires.at

pub finish-requires-clause-sink : goal.finish-requires-clause-sink
finish-requires-clause-sink g c = some_sink c.requires.sinks

pub judge-requires-clause-there : goal.judge-requires-clause-there
judge-requires-clause-there g c = command_there c.self.inside c.args.self.now c.args.k c.command.result.now c.self.view_is c.command.ensures.is

pub judge-requires-clause-within : goal.judge-requires-clause-within
judge-requires-clause-within g c = subst (λ (e : RunState). CommandWithin e.script c.command.result.now) c.self.view_is c.command.ensures.within

pub judge-requires-clause-turn : goal.judge-requires-clause-turn
judge-requires-clause-turn g c = turn_left c.self.inside c.args.self.now c.self.view_is c.self.invariant (λ e. c.if-self-turns.false (e ∙ sym c.turns.ensures))

pub act-requires-clause-within : goal.act-requires-clause-within
act-requires-clause-within g c = rw c.in_ok-choice.ensures.reaches (subst (λ (e : RunState). ActionWithin e.script c.command.result.now.action) c.self.view_is c.command.ensures.within.action)

pub act-requires-clause-action : goal.act-requires-clause-action
act-requires-clause-action g c = rw c.in_ok-choice.ensures.reaches (action_there c.self.inside c.args.self.now c.args.k c.command.result.now c.self.view_is c.command.ensures.is)

pub act-requires-clause-sinks : goal.act-requires-clause-sinks
act-requires-clause-sinks g c = rw c.in_ok-choice.ensures.reaches c.requires.sinks
