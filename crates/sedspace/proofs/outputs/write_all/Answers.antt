use Rattle.std.proofs.Common.{◌∙◌, arith}
use Rattle.std.proofs.KnownBytes.{Keeps-trans}
use Rattle.sedspace.proofs.OutputLemmas.{appended_more}
use Rattle.sedspace.proofs.outputs.write_all.Goals as goal

pub loop-done-preserved : goal.loop-done-preserved
loop-done-preserved g c =
    let h = c.loop-done.invariant in
    let w = c.in-Ok.ensures in
    record {
      within = omega (arith, w.bound);
      appends = appended_more _ _ _ c.loop-done.done c.in-Ok.count c.args.bytes.now h.within (omega (arith, w.bound)) h.appends w.appends;
      failed = w.failed ∙ h.failed;
      others = λ k other. Keeps-trans _ _ _ (h.others k other) (w.others k other);
      others_failed = λ k other. w.others_failed k other ∙ h.others_failed k other;
      sinks = w.sinks ∙ h.sinks;
      same_names = w.same_names ∙ h.same_names;
    }
