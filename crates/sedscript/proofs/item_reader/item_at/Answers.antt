use Rattle.std.proofs.Common.{Err, refl, sym, ap, subst, ◌∙◌, slice_get, length, arith}
use Rattle.sedscript.specs.Answers.{as_here, Comes}
use Rattle.sedscript.specs.Items.{Headed, addresses_at, function_at, function_after}
use Rattle.sedscript.proofs.Coming.{comes_then, comes_err, comes_as_err, item_none, item_some, after_here}
use Rattle.sedscript.proofs.item_reader.item_at.Goals as goal

pub returns-in-None-clause-comes : goal.returns-in-None-clause-comes
returns-in-None-clause-comes c = item_none c.args.source.now.text.now c.args.source.now.kind c.args.source.now.max_nodes c.args.exprs.now.items c.args.exprs.now.items c.args.at (ap (slice_get c.args.source.now.text.now) (sym c.past-start.ensures.is) ∙ (sym c.byte_at.ensures ∙ c.in-None.is)) refl

pub returns-in_err-plain-in-Some-clause-comes : goal.returns-in_err-plain-in-Some-clause-comes
returns-in_err-plain-in-Some-clause-comes c =
    comes_as_err c.args.source.now.text.now c.args.source.now.kind c.args.source.now.max_nodes _ _ as_here c.from_residual.result _ c.in_err-plain-in-Some.field-0.0 c.from_residual.ensures.1
    (item_some c.args.source.now.text.now c.args.source.now.kind c.args.source.now.max_nodes c.args.exprs.now.items c.addresses_at.new.exprs.items c.args.at c.past-start.result _ (Err c.in_err-plain-in-Some.field-0.0) c.past-start.ensures.is (sym c.byte_at.ensures ∙ c.in-Some.is)
    (comes_err c.args.source.now.text.now c.args.source.now.kind c.args.source.now.max_nodes (addresses_at c.args.source.now.text.now (length c.args.exprs.now.items) c.past-start.result) (function_after c.args.source.now.text.now) c.in_err-plain-in-Some.field-0.0 c.in_err-plain-in-Some.ensures.comes))

pub returns-in_ok-plain-in-Some-clause-comes : goal.returns-in_ok-plain-in-Some-clause-comes
returns-in_ok-plain-in-Some-clause-comes c =
    item_some c.args.source.now.text.now c.args.source.now.kind c.args.source.now.max_nodes c.args.exprs.now.items c.function_at.new.exprs.items c.args.at c.past-start.result _ _ c.past-start.ensures.is (sym c.byte_at.ensures ∙ c.in-Some.is)
    (comes_then c.args.source.now.text.now c.args.source.now.kind c.args.source.now.max_nodes _ c.addresses_at.new.exprs.items c.function_at.new.exprs.items (addresses_at c.args.source.now.text.now (length c.args.exprs.now.items) c.past-start.result) (function_after c.args.source.now.text.now) _ as_here _ c.in_ok-plain-in-Some.ensures.comes
    (subst (λ (z : Headed). Comes c.args.source.now.text.now c.args.source.now.kind c.args.source.now.max_nodes c.addresses_at.new.exprs.items c.function_at.new.exprs.items as_here c.function_at.result
    (function_at c.args.source.now.text.now (length c.addresses_at.new.exprs.items) z.addresses z.at)) (c.with_bang-next.ensures.is (length c.addresses_at.new.exprs.items)) c.function_at.ensures.comes))

pub returns-in-None-clause-here : goal.returns-in-None-clause-here
returns-in-None-clause-here c = ap (slice_get c.args.source.now.text.now) (sym c.past-start.ensures.is) ∙ (sym c.byte_at.ensures ∙ c.in-None.is)

pub returns-in_ok-plain-in-Some-clause-here : goal.returns-in_ok-plain-in-Some-clause-here
returns-in_ok-plain-in-Some-clause-here c = after_here c.args.source.now.text.now c.args.at c.past-start.result _ c.function_at.result c.past-start.ensures.within.0 (omega (arith, c.in_ok-plain-in-Some.ensures.within.0, c.with_bang-next.ensures.within.0)) c.function_at.ensures.within
