use Rattle.std.proofs.Common.{sym, ◌∙◌}
use Rattle.sedscript.proofs.Coming.{argument_comes}
use Rattle.sedscript.proofs.item_reader.argument_with.Goals as goal

pub returns-else-reads_expression-clause-comes : goal.returns-else-reads_expression-clause-comes
returns-else-reads_expression-clause-comes c =
    argument_comes c.args.source.now.text.now c.args.source.now.kind c.args.source.now.max_nodes c.args.at c.args.exprs.now.items c.args.verb c.argument_of.result
    (sym c.reads_expression.ensures ∙ c.if-reads_expression.false) c.argument_of.ensures.is
