use Rattle.std.proofs.Common.{◌+◌, ◌∙◌, sym, ap, drop, arith}
use Rattle.sedre.specs.Brackets.{list_end}
use Rattle.sedre.proofs.ListLemmas.{end_begun, end_more}
use Rattle.sedre.proofs.brackets.list_end.Goals as goal

pub loop-place-init : goal.loop-place-init
loop-place-init c = record {
  after = omega (arith, c.elements_start-start.ensures.within);
  low = omega arith;
  inside = omega (arith, c.elements_start-start.ensures.within);
  end = end_begun c.args.delimiter c.args.text.now (c.args.at + 1) c.elements_start-start.result c.elements_start-start.ensures.is;
}

pub loop-place-preserved : goal.loop-place-preserved
loop-place-preserved c = record {
  after = omega (arith, c.element_at-width.ensures.width);
  low = omega (arith, c.element_at-width.ensures.width);
  inside = omega (arith, c.element_at-width.ensures.width);
  end =
      end_more c.args.delimiter c.args.text.now c.elements_start-start.result c.loop-place.place c.element_at-width.result.1
      (list_end c.args.delimiter (c.args.at + 1) (drop (c.args.at + 1) c.args.text.now)) c.loop-place.invariant.end (omega arith)
      (sym c.is_closing.ensures ∙ c.if-is_closing.false) (ap (λ p. p.1) c.element_at-width.ensures.is) c.loop-place.invariant.low c.element_at-width.ensures.width.0;
}
