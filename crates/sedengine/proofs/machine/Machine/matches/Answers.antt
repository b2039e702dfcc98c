use Rattle.std.proofs.Common.{rules, refl}
use Rattle.sedscript.specs.declared.types.Address.TheVariants.{Match}
use Rattle.sedacts.specs.Move.{none_left}
use Rattle.sedengine.specs.Judging.{current_in}
use Rattle.sedacts.proofs.Streams.{lines_same, names_ok, ReadsLines-unread}
use Rattle.sedengine.proofs.Choices.{answers_at}
use Rattle.sedengine.proofs.machine.Machine.matches.Goals as goal

pub returns-in-Line : goal.returns-in-Line
returns-in-Line g c = record {
  answers = search rules;
  reads = record { left = λ ls known. lines_same _ _ ls known; alone = record { input = ReadsLines-unread _ _ _ _ _ names_ok.input; output = tt } };
  same = refl;
  err = tt;
}

pub returns-in-Last : goal.returns-in-Last
returns-in-Last g c = record {
  answers = search rules;
  reads = c.is_last.ensures.reads;
  same = refl;
  err = search rules;
}

pub returns-in-Match : goal.returns-in-Match
returns-in-Match g c = record {
  answers = λ sound ls known.
      answers_at (current_in c.args.self.now (none_left ls)) c.args.address (Match c.in-Match.named) _ c.finds.result c.in-Match.is (c.finds.ensures.answers (none_left ls));
  reads = record {
    left = λ ls known. lines_same _ _ ls known;
    alone = record { input = ReadsLines-unread _ _ _ _ c.finds.result c.finds.ensures.devices.input; output = c.finds.ensures.devices.output };
  };
  same = c.finds.ensures.same;
  err = c.finds.ensures.err;
}
