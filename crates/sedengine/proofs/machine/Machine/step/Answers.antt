use Rattle.sedengine.proofs.Leaving.{leaves_quiet, leaves_stopped, leaves_texts, leaves_unread}
use Rattle.sedacts.proofs.Streams.{names_done}
use Rattle.sedacts.proofs.Writing.{Delivers-quiet}
use Rattle.sedengine.proofs.Tasks.{ends_here, steps_by_moves}
use Rattle.sedengine.proofs.machine.Machine.step.Goals as goal

pub returns-in-Begin : goal.returns-in-Begin
returns-in-Begin g c = record {
  steps = λ sound ls known files shown. c.begin.ensures.steps sound ls known files _;
  falls = c.begin.ensures.falls;
  leaves = let w = c.begin.ensures in
      leaves_texts w.reads.input (Delivers-quiet _ _ _ _ w.reads.output) w.same;
}

pub returns-in-WriteLast : goal.returns-in-WriteLast
returns-in-WriteLast g c = record {
  steps = λ sound ls known files shown.
      steps_by_moves g.R.ByteSource.remaining _ ls _ _ c.args.self.now c.quit.new.self _ _ _ known (c.quit.ensures.moves files shown ls);
  falls = c.quit.ensures.falls;
  leaves = leaves_unread c.quit.ensures.leaves;
}

pub returns-in-Ended : goal.returns-in-Ended
returns-in-Ended g c = record {
  steps = λ sound ls known files shown.
      ends_here g.R.ByteSource.remaining c.args.lines.now c.self.inside c.args.self.now c.self.view_is c.self.invariant ls files _ c.in-Ended.is;
  falls = tt;
  leaves = leaves_unread (leaves_stopped names_done);
}

pub returns-in-Rebegin : goal.returns-in-Rebegin
returns-in-Rebegin g c = record {
  steps = λ sound ls known files shown.
      steps_by_moves g.R.ByteSource.remaining _ ls _ _ c.args.self.now c.rebegin.new.self _ _ _ known (c.rebegin.ensures.moves files ls _);
  falls = c.rebegin.ensures.falls;
  leaves = leaves_unread (leaves_quiet c.rebegin.ensures.devices c.rebegin.ensures.same);
}

pub returns-in-Do : goal.returns-in-Do
returns-in-Do g c = c.reach.ensures
