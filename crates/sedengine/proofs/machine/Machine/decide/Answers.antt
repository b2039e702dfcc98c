use Rattle.std.proofs.Common.{rules, refl, ap, ◌∙◌}
use Rattle.sedengine.proofs.Choices.{none_decides}
use Rattle.sedengine.specs.Judging.{current_in}
use Rattle.sedacts.specs.Choose.{deciding}
use Rattle.sedacts.specs.Move.{none_left}
use Rattle.sedacts.specs.Run.{RunState}
use Rattle.sedacts.proofs.Streams.{lines_same, names_ok, ReadsLines-unread}
use Rattle.sedengine.proofs.machine.Machine.decide.Goals as goal

pub returns-in-None : goal.returns-in-None
returns-in-None g c = record {
  answers = λ sound ls known.
      none_decides (current_in c.args.self.now (none_left ls)) _ (c.in-None.ensures ∙ ap (λ (e : RunState). deciding c.args.command.now.first c.args.command.now.second c.args.active e.state.number) c.self.view_is);
  reads = record { left = λ ls known. lines_same _ _ ls known; alone = record { input = ReadsLines-unread _ _ _ _ _ names_ok.input; output = tt } };
  same = refl;
  err = tt;
}

pub returns-in-Some : goal.returns-in-Some
returns-in-Some g c = record {
  answers = search rules;
  reads = c.matches.ensures.reads;
  same = c.matches.ensures.same;
  err = c.matches.ensures.err;
}
