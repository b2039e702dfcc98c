use Rattle.std.proofs.Common.{◌∙◌, arith, refl, take}
use Rattle.sedengine.proofs.Gains.{SinksGain-one}
use Rattle.sededit.proofs.ProgramLemmas.{Helps-finished, all_kept}
use Rattle.sededit.proofs.program.write_help.Goals as goal

pub returns-in-Ok : goal.returns-in-Ok
returns-in-Ok g c =
    let w = c.in-Ok.ensures in
    Helps-finished _ _ _ _ _ _ _ _ c.args.text.now _ _ (SinksGain-one _ _ 0 c.args.text.now w.appends w.others) (λ _. all_kept _ _ w.failed w.others_failed) (λ early. absurd (early refl))
    c.finish.ensures.contents (c.finish.ensures.names ∙ w.same_names) c.finish.ensures.finishes

pub returns-in-Err : goal.returns-in-Err
returns-in-Err g c =
    let w = c.in-Err.ensures in
    Helps-finished _ _ _ _ _ _ _ _ (take c.in-Err.field-0 c.args.text.now) _ _ (SinksGain-one _ _ 0 (take c.in-Err.field-0 c.args.text.now) w.appends w.others) (λ done. absurd (cc)) (λ _. (0, omega (arith, w.failed)))
    c.finish-in-Err.ensures.contents (c.finish-in-Err.ensures.names ∙ w.same_names) c.finish-in-Err.ensures.finishes
