use Rattle.std.proofs.Common.{◌≡◌, Some, ap, ◌∙◌}
use Rattle.std.proofs.lemmas.Result.{err_from_is_err_and}
use Rattle.std.specs.Prelude.{slice_get}
use Rattle.sedacts.specs.Move.{substitutes}
use Rattle.sedacts.specs.Run.{RunState, at_lines, run_setting}
use Rattle.sedacts.proofs.Writing.{Delivers-none, Delivers-unwritten, writes_alone}
use Rattle.sedengine.proofs.Leaving.{falls_replaced, same_replaced}
use Rattle.sedacts.proofs.Streams.{names_ok}
use Rattle.sedengine.proofs.SubstituteMoves.{of_this, there_is, replaced_nothing, replaced_some, replaced_not}
use Rattle.sedengine.proofs.machine.Machine.act_substitute.Goals as goal

pub returns-then-branch : goal.returns-then-branch
returns-then-branch g c = record {
  acts = λ files ls s reaches first.
      let r = c.args.self.now in
      let w = c.in_ok-replace_occurrences.ensures in
      let x = there_is r.script.substitutions c.args.k c.requires.number in
      let there : slice_get c.replace_occurrences.new.self.script.substitutions c.args.k ≡ Some x.0 = ap (λ (r : RunState). slice_get r.script.substitutions c.args.k) w.same ∙ x.1 in
      replaced_some r c.replace_occurrences.new.self ls (c.requires.limits ls) w.same w.fits (run_setting r files) (g.O.MeteredSinks.tally c.args.outputs.now) (g.O.MeteredSinks.tally c.write_replaced.new.outputs) _ x.0
      c.write_replaced.result (rw c.if-branch.true at w.makes x.0 x.1 files ls) (rw (of_this c.replace_occurrences.new.self c.args.k x.0 there) at c.write_replaced.ensures).puts s reaches (first ∙ ap (substitutes (run_setting r files) (at_lines r ls)) x.1);
  devices = writes_alone c.write_replaced.ensures;
  falls = falls_replaced c.args.self.now c.replace_occurrences.new.self c.replace_occurrences.new.self.state c.in_ok-replace_occurrences.ensures.same;
  same = same_replaced c.args.self.now c.replace_occurrences.new.self c.replace_occurrences.new.self.state c.in_ok-replace_occurrences.ensures.same;
}

pub returns-else-branch : goal.returns-else-branch
returns-else-branch g c = record {
  acts = λ files ls s reaches first.
      let r = c.args.self.now in
      let w = c.in_ok-replace_occurrences.ensures in
      let x = there_is r.script.substitutions c.args.k c.requires.number in
      replaced_nothing r c.replace_occurrences.new.self ls (c.requires.limits ls) w.same w.fits (run_setting r files) (g.O.MeteredSinks.tally c.args.outputs.now) (g.O.MeteredSinks.tally c.args.outputs.now) _ x.0
      (rw c.if-branch.false at w.makes x.0 x.1 files ls) s reaches (first ∙ ap (substitutes (run_setting r files) (at_lines r ls)) x.1);
  devices = record { output = Delivers-none _ _ _; input = names_ok.input };
  falls = falls_replaced c.args.self.now c.replace_occurrences.new.self c.replace_occurrences.new.self.state c.in_ok-replace_occurrences.ensures.same;
  same = same_replaced c.args.self.now c.replace_occurrences.new.self c.replace_occurrences.new.self.state c.in_ok-replace_occurrences.ensures.same;
}

pub returns-in_err-replace_occurrences : goal.returns-in_err-replace_occurrences
returns-in_err-replace_occurrences g c =
    let p = err_from_is_err_and c.from_residual.result c.from_residual.ensures.1 in
    record {
      acts = λ files ls s reaches first.
          let r = c.args.self.now in
          let w = c.in_err-replace_occurrences.ensures in
          let x = there_is r.script.substitutions c.args.k c.requires.number in
          rw (p.1, p.2) (replaced_not r c.replace_occurrences.new.self ls (c.requires.limits ls) w.same w.fits (run_setting r files) (g.O.MeteredSinks.tally c.args.outputs.now) (g.O.MeteredSinks.tally c.args.outputs.now) _ x.0
          c.in_err-replace_occurrences.field-0.0 w.err (w.makes x.0 x.1 files ls) s reaches (first ∙ ap (substitutes (run_setting r files) (at_lines r ls)) x.1));
      devices = let w = c.in_err-replace_occurrences.ensures.devices in
          rw (p.1, p.2) (record { output = Delivers-unwritten _ _ _ c.in_err-replace_occurrences.field-0.0 w.output; input = λ e. w.input cc });
      falls = falls_replaced c.args.self.now c.replace_occurrences.new.self c.replace_occurrences.new.self.state c.in_err-replace_occurrences.ensures.same;
      same = same_replaced c.args.self.now c.replace_occurrences.new.self c.replace_occurrences.new.self.state c.in_err-replace_occurrences.ensures.same;
    }
