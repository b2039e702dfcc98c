use Rattle.std.proofs.Common.{sym, ◌∙◌, length, Ok, Err}
use Rattle.sedscript.specs.Answers.{as_here}
use Rattle.sedscript.proofs.Coming.{no_function, item_fault, item_goes, item_comes, comes_err, comes_as_err}
use Rattle.sedscript.proofs.item_reader.function_at.Goals as goal

pub returns-in_default-clause-comes : goal.returns-in_default-clause-comes
returns-in_default-clause-comes c = rw c.at.ensures (no_function c.args.source.now.text.now c.args.source.now.kind c.args.source.now.max_nodes (length c.args.exprs.now.items) c.args.at c.args.addresses (sym c.byte_at.ensures ∙ c.in_default.is))

pub returns-in_err-verb-clause-comes : goal.returns-in_err-verb-clause-comes
returns-in_err-verb-clause-comes c =
    comes_as_err c.args.source.now.text.now c.args.source.now.kind c.args.source.now.max_nodes _ _ as_here c.from_residual.result _ c.in_err-verb.field-0.0 c.from_residual.ensures.1
    (item_fault c.args.source.now.text.now c.args.source.now.kind c.args.source.now.max_nodes (length c.args.exprs.now.items) c.in-Some.letter c.args.at c.args.addresses c.in_err-verb.field-0.0 (sym c.byte_at.ensures ∙ c.in-Some.is) (sym c.allowed.ensures ∙ c.in_err-verb.was))

pub returns-in_err-argument-clause-comes : goal.returns-in_err-argument-clause-comes
returns-in_err-argument-clause-comes c =
    comes_as_err c.args.source.now.text.now c.args.source.now.kind c.args.source.now.max_nodes _ _ as_here c.from_residual-in_err-argument.result _ c.in_err-argument.field-0.0 c.from_residual-in_err-argument.ensures.1
    (item_goes c.args.source.now.text.now c.args.source.now.kind c.args.source.now.max_nodes c.in-Some.letter c.args.at c.in_ok-verb.verb c.args.addresses c.args.exprs.now.items c.argument_with.new.exprs.items (Err c.in_err-argument.field-0.0) (sym c.byte_at.ensures ∙ c.in-Some.is)
    (sym c.allowed.ensures ∙ c.in_ok-verb.was) (comes_err c.args.source.now.text.now c.args.source.now.kind c.args.source.now.max_nodes _ _ c.in_err-argument.field-0.0 c.in_err-argument.ensures.comes))

pub returns-clause-comes : goal.returns-clause-comes
returns-clause-comes c =
    item_goes c.args.source.now.text.now c.args.source.now.kind c.args.source.now.max_nodes c.in-Some.letter c.args.at c.in_ok-verb.verb c.args.addresses c.args.exprs.now.items c.argument_with.new.exprs.items (Ok c.item_of.result) (sym c.byte_at.ensures ∙ c.in-Some.is)
    (sym c.allowed.ensures ∙ c.in_ok-verb.was)
    (item_comes c.args.source.now.text.now c.args.source.now.kind c.args.source.now.max_nodes c.args.at c.in_ok-verb.verb c.args.addresses c.args.exprs.now.items c.argument_with.new.exprs.items (c.in_ok-argument.argument, c.in_ok-argument.next) c.item_of.result c.item_of.ensures
    c.in_ok-argument.ensures.comes)
