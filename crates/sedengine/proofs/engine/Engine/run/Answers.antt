use Rattle.std.proofs.Common.{Some, refl, sym, ap, ◌∙◌, rules}
use Rattle.std.proofs.KnownBytes.{Keeps-refl}
use Rattle.sedacts.specs.Meters.{SinksFrame}
use Rattle.sedacts.specs.Run.{RunState}
use Rattle.sedengine.proofs.Metering.{ending_metered, sinks_at_end, meter_fits, never_some, not_none, same_metered, sink_counts}
use Rattle.sedengine.proofs.engine.Engine.run.Goals as goal

pub returns-clause-ends : goal.returns-clause-ends
returns-clause-ends g c = λ fresh sound ls known files shown.
    let w = c.run-end.ensures in
    ending_metered g.O.Outputs.contents c.self.inside.machine c.run-end.new.self c.self.inside.meter c.run-end.new.outputs.meter.now c.self.inside.ended (Some c.run-end.result) c.args.self.now c.args.outputs.now c.run-end.new.outputs.outputs.now _ _ _ _ _ files ls _ _
    c.self.view_is c.self.invariant.0 (search rules) (ap (λ (f : SinksFrame). f.most) w.leaves.output.same_frame) refl c.is_within_limit.ensures _ w.leaves.output.full
    (w.runs sound ls known files shown)

pub returns-clause-input : goal.returns-clause-input
returns-clause-input g c = λ fresh sound. c.run-end.ensures.leaves.input.failed sound

pub returns-clause-output : goal.returns-clause-output
returns-clause-output g c = λ fresh.
    let out = c.run-end.ensures.leaves.output in
    let limit = ap (λ (e : RunState). e.limits.output) c.self.view_is in
    sinks_at_end _ _ _ _ g.O.Outputs.failures c.args.outputs.now c.run-end.new.outputs.outputs.now _ _ _ _ (search rules) out out.failed refl
    (ap (λ (f : SinksFrame). f.most) out.same_frame ∙ c.self.invariant.0 ∙ limit)

pub returns-clause-ended : goal.returns-clause-ended
returns-clause-ended g c = refl

pub run-end-requires-clause-sinks : goal.run-end-requires-clause-sinks
run-end-requires-clause-sinks g c = sink_counts c.self.inside.machine c.args.self.now _ _ _ _ c.self.view_is c.self.invariant.1 c.requires.sinks

pub invariant_of-self : goal.invariant_of-self
invariant_of-self g c = let w = c.run-end.ensures.leaves in
    meter_fits c.self.inside.machine c.run-end.new.self c.self.inside.meter c.run-end.new.outputs.meter.now w.same (ap (λ (f : SinksFrame). f.most) w.output.same_frame) (ap (λ (f : SinksFrame). f.counts) w.output.same_frame) c.self.invariant

pub returns-clause-same_run : goal.returns-clause-same_run
returns-clause-same_run g c = same_metered c.self.inside.machine c.run-end.new.self c.args.self.now _ _ _ _ c.self.view_is c.run-end.ensures.leaves.same

pub returns-clause-again : goal.returns-clause-again
returns-clause-again g c = never_some _ _ _ (ap (λ (e : RunState). e.ended) c.self.view_is) c.in_default.not-Some

pub returns-clause-same_texts : goal.returns-clause-same_texts
returns-clause-same_texts g c = c.run-end.ensures.leaves.kept

pub run-end-requires-clause-look : goal.run-end-requires-clause-look
run-end-requires-clause-look g c = c.requires.look ∙ ap (λ (e : RunState). e.limits.look) (sym c.self.view_is)

pub returns-in-Some : goal.returns-in-Some
returns-in-Some g c =
    let at = sym (ap (λ (e : RunState). e.ended) c.self.view_is) ∙ c.in-Some.is in
    record {
      ends = λ fresh. absurd (not_none _ at fresh);
      input = λ fresh. absurd (not_none _ at fresh);
      output = λ fresh. absurd (not_none _ at fresh);
      ended = at;
      again = rw at (refl, refl, refl, refl, refl);
      same_run = record { script = refl; same_limits = refl };
      same_devices = ((c.is_within_look.ensures, refl, refl), (refl, refl));
      same_texts = λ k. Keeps-refl _;
    }
