use Rattle.std.proofs.Common.{arith, ◌≡◌, inl, sym, subst, ◌∙◌, ◌⊎◌, length}
use Rattle.sedscript.specs.declared.types.TheConstants.{NO_MEMORY}
use Rattle.sedscript.specs.FirstFault.{Fails}
use Rattle.sedscript.specs.Items.{Reading, Addressed}
use Rattle.sedscript.specs.Answers.{as_addressed}
use Rattle.sedscript.proofs.Coming.{comes_err, comes_as_err, match_open, empty_comes, match_is, match_comes}
use Rattle.sedscript.proofs.addresses.match_at.Goals as goal

pub returns-in_default-clause-comes : goal.returns-in_default-clause-comes
returns-in_default-clause-comes c = rw c.at.ensures (inl (match_open c.args.source.now.text.now c.args.source.now.kind c.args.source.now.max_nodes _ c.args.delimiter c.args.place (sym c.delimited.ensures.is ∙ c.in_default.is)))

pub returns-in_err-expression_at-clause-comes : goal.returns-in_err-expression_at-clause-comes
returns-in_err-expression_at-clause-comes c =
    comes_as_err c.args.source.now.text.now c.args.source.now.kind c.args.source.now.max_nodes _ _ as_addressed c.from_residual.result _ c.in_err-expression_at.field-0.0 c.from_residual.ensures.1
    (subst (λ (r : Reading Addressed). Fails c.args.source.now.text.now c.args.source.now.kind c.args.source.now.max_nodes r c.in_err-expression_at.field-0.0 ⊎ (c.in_err-expression_at.field-0.0 ≡ NO_MEMORY))
    (sym (match_is c.args.source.now.text.now (length c.args.exprs.now.items) c.args.delimiter c.args.place c.in-Some.to c.folds_at-folded.result (sym c.delimited.ensures.is ∙ c.in-Some.is) c.if-to-from.false c.folds_at-folded.ensures))
    (comes_err c.args.source.now.text.now c.args.source.now.kind c.args.source.now.max_nodes _ _ c.in_err-expression_at.field-0.0 c.in_err-expression_at.ensures.comes))

pub returns-then-to-from-clause-comes : goal.returns-then-to-from-clause-comes
returns-then-to-from-clause-comes c =
    empty_comes c.args.source.now.text.now c.args.source.now.kind c.args.source.now.max_nodes c.args.delimiter c.args.place c.in-Some.to c.args.exprs.now.items c.empty_match.result
    (sym c.delimited.ensures.is ∙ c.in-Some.is) c.if-to-from.true (c.empty_match.ensures.is (length c.args.exprs.now.items))

pub returns-clause-comes : goal.returns-clause-comes
returns-clause-comes c =
    match_comes c.args.source.now.text.now c.args.source.now.kind c.args.source.now.max_nodes c.args.delimiter c.args.place c.in-Some.to c.len-number.result _ c.past_flag.result c.folds_at-folded.result
    c.args.exprs.now.items c.expression_at.new.exprs.items (sym c.delimited.ensures.is ∙ c.in-Some.is) c.if-to-from.false c.folds_at-folded.ensures (omega (arith, c.len-number.ensures)) c.in_ok-expression_at.ensures.one
    c.past_flag.ensures.is c.in_ok-expression_at.ensures.comes
