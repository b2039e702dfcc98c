use Rattle.std.proofs.Common.{◌≡◌, ◌+◌, ◌++◌, ◌∷◌, [], ap, arith, sym, ◌∙◌, append_assoc, take}
use Rattle.sededit.proofs.ProgramLemmas.{next_name}
use Rattle.sededit.proofs.program.create_files.Goals as goal

pub loop-name-preserved : goal.loop-name-preserved
loop-name-preserved g c =
    let h = c.loop-name.invariant in
    let e = c.if-not-create.ensures in
    let name = c.as_slice.result.now in
    let i = c.loop-name.name-index in
    let wfiles = c.args.script.now.wfiles in
    let more : take (i + 1) wfiles ≡ take i wfiles ++ name ∷ [] = rw c.as_slice.ensures.value (next_name (λ n. n.items) c.wfiles-name-items.result.now wfiles i c.name-item.result c.wfiles-name-items.ensures (omega (arith, c.loop-name-test.true)) c.name-item.is) in
    record {
      count = omega (arith, e.count, h.count);
      names = e.names ∙ ap (λ z. z ++ name ∷ []) h.names ∙ append_assoc (g.O.Outputs.names c.args.sinks.now) (take i wfiles) (name ∷ []) ∙ ap (λ z. g.O.Outputs.names c.args.sinks.now ++ z) (sym more);
      contents = λ k. e.contents k ∙ h.contents k;
      failed = λ k. e.failed k ∙ h.failed k;
    }
