use Rattle.std.proofs.Common.{arith, ◌⊎◌, ◌≡◌, ℕ, Err, sym, subst, refl, ◌∙◌, length}
use Rattle.sedscript.specs.declared.types.TheConstants.{NO_MEMORY}
use Rattle.sedscript.specs.declared.items.Argument.{Argument}
use Rattle.sedscript.specs.Items.{Reading}
use Rattle.sedscript.specs.FirstFault.{Fails}
use Rattle.sedscript.specs.Answers.{Comes, as_argument}
use Rattle.sedscript.proofs.Coming.{comes_err, comes_as_err, comes_plain, substitute_fault, substitute_goes, substitute_empty, substitute_is, substitute_comes, arguments_agree}
use Rattle.sedscript.proofs.item_reader.substitute_at.Goals as goal

pub returns-in_err-strings-clause-comes : goal.returns-in_err-strings-clause-comes
returns-in_err-strings-clause-comes c =
    comes_as_err c.args.source.now.text.now c.args.source.now.kind c.args.source.now.max_nodes _ _ as_argument c.from_residual.result _ c.in_err-strings.field-0.0 c.from_residual.ensures.1
    (substitute_fault c.args.source.now.text.now c.args.source.now.kind c.args.source.now.max_nodes (length c.args.exprs.now.items) c.args.at c.in_err-strings.field-0.0 (sym c.strings_at.ensures.is ∙ c.in_err-strings.was))

pub returns-then-strings-clause-comes : goal.returns-then-strings-clause-comes
returns-then-strings-clause-comes c =
    substitute_goes c.args.source.now.text.now c.args.source.now.kind c.args.source.now.max_nodes c.args.exprs.now.items c.args.exprs.now.items c.args.at c.in_ok-strings.strings _ (sym c.strings_at.ensures.is ∙ c.in_ok-strings.was)
    (subst (λ (r : Reading (Argument × ℕ)). Comes c.args.source.now.text.now c.args.source.now.kind c.args.source.now.max_nodes c.args.exprs.now.items c.args.exprs.now.items as_argument c.substituted.result r)
    (sym (substitute_empty c.args.source.now.text.now (length c.args.exprs.now.items) c.in_ok-strings.strings c.if-strings.true))
    (comes_plain c.args.source.now.text.now c.args.source.now.kind c.args.source.now.max_nodes _ _ as_argument _ _ refl (arguments_agree (length c.args.exprs.now.items) _ _ c.substituted.ensures.is)))

pub returns-in_err-groups-clause-comes : goal.returns-in_err-groups-clause-comes
returns-in_err-groups-clause-comes c =
    comes_as_err c.args.source.now.text.now c.args.source.now.kind c.args.source.now.max_nodes _ _ as_argument c.from_residual-in_err-groups.result _ c.in_err-groups.field-0.0 c.from_residual-in_err-groups.ensures.1
    (substitute_goes c.args.source.now.text.now c.args.source.now.kind c.args.source.now.max_nodes c.args.exprs.now.items c.expression_at.new.exprs.items c.args.at c.in_ok-strings.strings (Err c.in_err-groups.field-0.0) (sym c.strings_at.ensures.is ∙ c.in_ok-strings.was)
    (subst (λ (r : Reading (Argument × ℕ)). Fails c.args.source.now.text.now c.args.source.now.kind c.args.source.now.max_nodes r c.in_err-groups.field-0.0 ⊎ (c.in_err-groups.field-0.0 ≡ NO_MEMORY))
    (sym (substitute_is c.args.source.now.text.now (length c.args.exprs.now.items) c.in_ok-strings.strings c.folds.result c.if-strings.false c.folds.ensures))
    (comes_err c.args.source.now.text.now c.args.source.now.kind c.args.source.now.max_nodes _ _ c.in_err-groups.field-0.0 c.in_err-groups.ensures.comes)))

pub returns-clause-comes : goal.returns-clause-comes
returns-clause-comes c =
    substitute_goes c.args.source.now.text.now c.args.source.now.kind c.args.source.now.max_nodes c.args.exprs.now.items c.expression_at.new.exprs.items c.args.at c.in_ok-strings.strings _ (sym c.strings_at.ensures.is ∙ c.in_ok-strings.was)
    (substitute_comes c.args.source.now.text.now c.args.source.now.kind c.args.source.now.max_nodes c.len-number.result c.in_ok-groups.groups c.in_ok-strings.strings c.folds.result c.args.exprs.now.items c.expression_at.new.exprs.items c.substituted-2.result
    c.if-strings.false c.folds.ensures (omega (arith, c.len-number.ensures)) c.in_ok-groups.ensures.comes c.substituted-2.ensures.is)
