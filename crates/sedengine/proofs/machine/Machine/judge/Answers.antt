use Rattle.std.proofs.Common.{rules, ◌≡◌, refl, ap, ◌∙◌}
use Rattle.std.proofs.lemmas.Result.{err_from_is_err_and}
use Rattle.sedacts.specs.Run.{RunState}
use Rattle.sedacts.specs.Move.{none_left}
use Rattle.sedengine.specs.Judging.{current_in}
use Rattle.sedacts.proofs.Streams.{lines_same, names_ok, reads_on, ReadsAlone-ended, ReadsLines-unread}
use Rattle.sedengine.proofs.Choices.{judges_ok, judges_err, selects_by_number}
use Rattle.sedengine.proofs.machine.Machine.judge.Goals as goal

pub returns-in-Some : goal.returns-in-Some
returns-in-Some g c = record {
  judges = λ sound ls known.
      let number : c.self.inside.number ≡ c.args.self.now.state.number = ap (λ (e : RunState). e.state.number) c.self.view_is in
      let used : c.take_turn.new.self.state.used ≡ c.args.self.now.state.used = ap (λ (e : RunState). e.state.used) c.take_turn.ensures in
      selects_by_number (current_in c.args.self.now (none_left ls)) c.is_active-active.result _ c.args.command.now c.in-Some.yes c.self.inside.number _ c.is_active-active.ensures number used c.in-Some.ensures;
  reads = record { left = λ ls known. lines_same _ _ ls known; alone = record { input = ReadsLines-unread _ _ _ _ _ names_ok.input; output = tt } };
  reaches = search rules;
}

pub returns : goal.returns
returns g c = record {
  judges = λ sound ls known.
      let number : c.self-2.inside.number ≡ c.args.self.now.state.number = ap (λ (e : RunState). e.state.number) (c.self-2.view_is ∙ c.in_ok-matched.ensures.same) in
      let used : c.take_turn-2.new.self.state.used ≡ c.decide.new.self.state.used = ap (λ (e : RunState). e.state.used) (c.take_turn-2.ensures) in
      judges_ok (current_in c.args.self.now (none_left ls)) c.is_active-active.result _ c.args.command.now c.in_ok-matched.matched c.self-2.inside.number _ _ c.choose-choice.result c.is_active-active.ensures number used c.choose-choice.ensures
      (c.in_ok-matched.ensures.answers sound ls known);
  reads = let w = c.in_ok-matched.ensures.reads in
      record { left = w.left; alone = reads_on c.in_ok-matched.matched _ names_ok w.alone };
  reaches = search rules;
}

pub returns-in_err-matched : goal.returns-in_err-matched
returns-in_err-matched g c =
    let p = err_from_is_err_and c.from_residual.result c.from_residual.ensures.1 in
    record {
      judges = λ sound ls known.
          rw (p.1, p.2) (judges_err (current_in c.args.self.now (none_left ls)) c.is_active-active.result _ c.args.command.now c.args.self.now.state.number c.decide.new.self.state.used c.in_err-matched.field-0.0 c.is_active-active.ensures refl (c.in_err-matched.ensures.answers sound ls known));
      reads = let w = c.in_err-matched.ensures.reads in
          rw (p.1, p.2) (record { left = w.left; alone = ReadsAlone-ended c.in_err-matched.field-0.0 w.alone });
      reaches = rw p.1 c.in_err-matched.ensures.err;
    }

pub is_active-active-requires : goal.is_active-active-requires
is_active-active-requires g c = c.requires.there

pub take_turn-requires : goal.take_turn-requires
take_turn-requires g c = record { there = c.requires.there; turn = c.requires.turn }

pub decide-requires : goal.decide-requires
decide-requires g c = record { first = c.requires.within.first; second = c.requires.within.second }

pub take_turn-requires-2 : goal.take_turn-requires-2
take_turn-requires-2 g c = rw c.in_ok-matched.ensures.same (record { there = c.requires.there; turn = c.requires.turn })
