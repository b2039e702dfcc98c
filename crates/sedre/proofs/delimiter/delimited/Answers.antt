use Rattle.std.proofs.Common.{◌∙◌, sym, ap, drop, None, if◌then◌else◌, arith, refl}
use Rattle.std.proofs.lemmas.Grind.{common_steps}
use Rattle.sedre.specs.Brackets.{delimiter_at, first_delimiter}
use Rattle.sedre.proofs.DelimiterLemmas.{stepped}
use Rattle.sedre.proofs.delimiter.delimited.Goals as goal

pub loop-place-init : goal.loop-place-init
unfolding delimiter_at
loop-place-init c = record { low = omega arith; rest = refl }

pub returns-then-has_newline-clause-is : goal.returns-then-has_newline-clause-is
returns-then-has_newline-clause-is c =
    sym (c.loop-place.invariant.rest
    ∙ stepped c.args.delimiter c.loop-place.place c.in_ok-next.next c.args.text.now c.has_newline.result (omega arith) c.if-b-delimiter.false (sym c.next_place.ensures.is ∙ c.in_ok-next.was) (omega (arith, c.in_ok-next.ensures.within)) c.has_newline.ensures
    ∙ ap (λ t. if t then None else first_delimiter c.args.delimiter 0 c.in_ok-next.next (drop c.in_ok-next.next c.args.text.now)) c.if-has_newline.true)

pub loop-place-preserved : goal.loop-place-preserved
loop-place-preserved c = record {
  low = omega (arith, c.in_ok-next.ensures.within);
  rest =
      c.loop-place.invariant.rest
      ∙ stepped c.args.delimiter c.loop-place.place c.in_ok-next.next c.args.text.now c.has_newline.result (omega arith) c.if-b-delimiter.false (sym c.next_place.ensures.is ∙ c.in_ok-next.was) (omega (arith, c.in_ok-next.ensures.within)) c.has_newline.ensures
      ∙ ap (λ t. if t then None else first_delimiter c.args.delimiter 0 c.in_ok-next.next (drop c.in_ok-next.next c.args.text.now)) c.if-has_newline.false;
}

pub returns-then-b-delimiter-clause-is : goal.returns-then-b-delimiter-clause-is
returns-then-b-delimiter-clause-is c = grind (arith, common_steps)

pub returns-in_err-next-clause-is : goal.returns-in_err-next-clause-is
returns-in_err-next-clause-is c = grind (arith, common_steps)

pub returns-clause-is : goal.returns-clause-is
returns-clause-is c = grind (arith, common_steps)
