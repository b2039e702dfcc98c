use Rattle.std.proofs.Common.{◌∙◌, arith, sym}
use Rattle.sedfiles.proofs.MemorySinkLemmas.{NextFails-same, failures_kept, kept_by_none, one_more_passed, write_passes}
use Rattle.sedfiles.proofs.memory_sinks.flush_first.Goals as goal

pub loop-sink-preserved : goal.loop-sink-preserved
loop-sink-preserved c =
    let h = c.loop-sink.invariant in
    let w = c.in-Ok.ensures in
    let old = c.loop-sink.outputs in
    let new = c.write.new.self in
    record {
      sinks = w.sinks ∙ h.sinks;
      kept = λ k. kept_by_none old new c.loop-sink.sink c.in-Ok.field-0 k (omega (arith, h.sinks, c.loop-sink-test.true, c.requires)) w.appends w.others ∙ h.kept k;
      failed = λ k. failures_kept old new c.loop-sink.sink k w.failed w.others ∙ h.failed k;
      ahead = λ k past. w.others k (λ is. absurd (omega (arith, is, past))) ∙ h.ahead k (omega (arith, past));
      passed = one_more_passed c.args.outputs.now c.loop-sink.sink h.passed
          (λ fails. write_passes old new c.loop-sink.sink (omega (arith, h.sinks, c.loop-sink-test.true, c.requires)) w.sinks c.in-Ok.field-0 w.takes
          (NextFails-same old c.args.outputs.now c.loop-sink.sink (sym (h.ahead c.loop-sink.sink (omega arith))) fails));
    }

pub returns-clause-answered : goal.returns-clause-answered
returns-clause-answered c = λ k before. c.loop-sink.invariant.passed k (omega (arith, before, c.loop-sink-test.false))
