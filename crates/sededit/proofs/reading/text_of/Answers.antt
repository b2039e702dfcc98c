use Rattle.std.proofs.Common.{◌≡◌, ◌∙◌, ◌+◌, ◌∷◌, drop, ap, sym, arith}
use Rattle.std.proofs.lemmas.List.{drop_more}
use Rattle.sededit.proofs.ReadingLemmas.{MakesText-same, OnlyReads-then}
use Rattle.sededit.proofs.reading.text_of.Goals as goal

pub loop-part-preserved : goal.loop-part-preserved
loop-part-preserved g c =
    let h = c.loop-part.invariant in
    let i = c.loop-part.part-index in
    let parts = c.args.parts.now in
    let split : drop i parts ≡ c.part-item.result ∷ drop (i + 1) parts = drop_more parts i c.part-item.result (omega arith) ∙ ap (λ x. x ∷ drop (i + 1) parts) (sym c.part-item.is) in
    let text = g.I.Inputs.text in
    let rest = drop (i + 1) parts in
    let made = c.in_ok-add.ensures.text in
    record {
      makes = λ whole m. h.makes whole (rw split (made whole rest (MakesText-same (text c.loop-part.inputs) (text c.add.new.inputs) c.add.new.text.items rest whole c.add.ensures.inputs.texts m)));
      inputs = OnlyReads-then _ _ _ _ _ _ _ _ _ h.inputs c.add.ensures.inputs;
    }
