use Rattle.std.proofs.Common.{◌∙◌, sym, ap, arith}
use Rattle.std.proofs.lemmas.Grind.{common_steps}
use Rattle.std.proofs.lemmas.Result.{err_from_is_err_and}
use Rattle.sedre.specs.Brackets.{list_at}
use Rattle.sedre.proofs.ListLemmas.{list_from, list_begun, list_more, list_fault, union_none, none_none}
use Rattle.sedre.proofs.brackets.list_at.Goals as goal

pub loop-place-init : goal.loop-place-init
loop-place-init c = record {
  after = omega (arith, c.elements_start-start.ensures.within);
  low = omega arith;
  inside = omega (arith, c.elements_start-start.ensures.within);
  normal = rw c.none-set.ensures none_none;
  whole = list_begun c.args.delimiter c.args.text.now c.args.at c.elements_start-start.result c.args.folded c.is_negated-negated.result c.none-set.result c.is_negated-negated.ensures c.elements_start-start.ensures.is c.none-set.ensures;
}

pub returns-in_err-members-clause-is : goal.returns-in_err-members-clause-is
returns-in_err-members-clause-is c =
    let p = err_from_is_err_and c.from_residual.result c.from_residual.ensures.1 in
    rw (p.1, p.2) (list_fault c.args.delimiter c.args.text.now c.args.folded c.is_negated-negated.result c.args.at c.elements_start-start.result c.loop-place.place c.loop-place.set c.in_err-members.field-0.0
    (list_at c.args.folded c.args.delimiter c.args.text.now c.args.at) c.loop-place.invariant.whole (omega arith) (sym c.is_closing.ensures ∙ c.if-is_closing.false)
    (sym c.members_at.ensures.is ∙ c.in_err-members.was))

pub loop-place-preserved : goal.loop-place-preserved
loop-place-preserved c = record {
  after = omega (arith, c.in_ok-members.ensures.after);
  low = omega (arith, c.in_ok-members.ensures.after);
  inside = omega (arith, c.in_ok-members.ensures.after);
  normal = rw c.union-set.ensures.is (union_none c.loop-place.set c.in_ok-members.members);
  whole =
      list_more c.args.delimiter c.args.text.now c.args.folded c.is_negated-negated.result c.args.at c.elements_start-start.result c.loop-place.place c.in_ok-members.next c.loop-place.set c.in_ok-members.members
      (list_at c.args.folded c.args.delimiter c.args.text.now c.args.at) c.loop-place.invariant.whole (omega arith) (sym c.is_closing.ensures ∙ c.if-is_closing.false)
      (sym c.members_at.ensures.is ∙ c.in_ok-members.was) c.loop-place.invariant.low (omega (arith, c.in_ok-members.ensures.after))
      ∙ ap (λ s. list_from c.args.delimiter c.args.text.now c.args.folded c.is_negated-negated.result c.args.at c.elements_start-start.result c.in_ok-members.next s) (sym c.union-set.ensures.is);
}

pub returns-clause-is : goal.returns-clause-is
returns-clause-is c = grind (arith, common_steps)
