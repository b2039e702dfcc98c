use Rattle.std.proofs.Common.{refl, ap, Ok, Err, arith, ◌∙◌}
use Rattle.sedacts.specs.Run.{RunState}
use Rattle.sedacts.specs.Steps.{reaches}
use Rattle.std.proofs.lemmas.Result.{err_from_is_err_and}
use Rattle.sedengine.proofs.NextLines.{joins_next}
use Rattle.sedengine.specs.Inside.{run_state_of}
use Rattle.sedengine.proofs.Tasks.{brought_is_run}
use Rattle.sedengine.proofs.Leaving.{falls_brought, falls_kept, same_brought}
use Rattle.sedengine.proofs.Runs.{SameRun-then, same_seen}
use Rattle.sedacts.proofs.Streams.{ReadsAlone-ended, ReadsAlone-shown}
use Rattle.sedengine.proofs.machine.Machine.join.Goals as goal

pub returns : goal.returns
returns g c = record {
  steps = λ sound ls known files sinks.
      joins_next g.R.ByteSource.remaining c.args.lines.now c.join_line.new.lines ls files sinks c.self.inside c.args.self.now c.go_on.new.self c.self.view_is c.self.invariant c.join_line.new.space (Ok c.in_ok-got.got)
      c.go_on.ensures (c.in_ok-got.ensures.brings sound ls known);
  reads = ReadsAlone-shown c.in_ok-got.got c.in_ok-got.ensures.reads;
  falls = let e = (run_state_of (record c.self.inside { pattern = c.join_line.new.space })) in
      falls_kept c.self.inside c.args.self.now e c.go_on.new.self c.self.view_is refl (falls_brought e c.go_on.new.self c.in_ok-got.got c.go_on.ensures);
  same = let e = (run_state_of (record c.self.inside { pattern = c.join_line.new.space })) in
      SameRun-then (same_seen c.self.inside c.args.self.now e c.self.view_is refl refl) (same_brought e c.go_on.new.self c.in_ok-got.got c.go_on.ensures);
}

pub returns-in_err-got : goal.returns-in_err-got
returns-in_err-got g c =
    let p = err_from_is_err_and c.from_residual.result c.from_residual.ensures.1 in
    record {
      steps = λ sound ls known files sinks.
          rw (p.1, p.2) (joins_next g.R.ByteSource.remaining c.args.lines.now c.join_line.new.lines ls files sinks c.self.inside c.args.self.now _ c.self.view_is c.self.invariant c.join_line.new.space (Err c.in_err-got.field-0.0)
          refl (c.in_err-got.ensures.brings sound ls known));
      reads = rw (p.1, p.2) (ReadsAlone-ended c.in_err-got.field-0.0 c.in_err-got.ensures.reads);
      falls = let e = (run_state_of (record c.self.inside { pattern = c.join_line.new.space })) in
          falls_kept c.self.inside c.args.self.now e e c.self.view_is refl (omega arith);
      same = same_seen c.self.inside c.args.self.now _ c.self.view_is refl refl;
    }

pub invariant_of-self : goal.invariant_of-self
invariant_of-self g c =
    let w = c.in_err-got.ensures in
    brought_is_run c.self.inside c.self.inside.pattern c.join_line.new.space c.self.invariant (ap (λ (e : RunState). reaches e.state.tasks) c.self.view_is ∙ c.requires.at) refl (rw c.self.invariant.pattern_limit c.self.invariant.pattern) w.limit w.fits

pub invariant_of-self-2 : goal.invariant_of-self-2
invariant_of-self-2 g c =
    let w = c.in_ok-got.ensures in
    brought_is_run c.self.inside c.self.inside.pattern c.join_line.new.space c.self.invariant (ap (λ (e : RunState). reaches e.state.tasks) c.self.view_is ∙ c.requires.at) refl (rw c.self.invariant.pattern_limit c.self.invariant.pattern) w.limit w.fits

pub go_on-requires : goal.go_on-requires
go_on-requires g c = record {
  at = ap (λ (e : RunState). reaches e.state.tasks) c.self.view_is ∙ c.requires.at;
  number = rw (← c.self.view_is) at c.requires.number;
}
