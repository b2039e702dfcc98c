use Rattle.std.proofs.Common.{◌≡◌, ◌≤◌, length, sym, subst}
use Rattle.sedre.specs.Tree.{WrittenExpression, expression_tree, size}
use Rattle.sedre.proofs.reader.read_with.Goals as goal

pub returns-in-Ok-clause-size : goal.returns-in-Ok-clause-size
returns-in-Ok-clause-size c =
    subst (λ (e : WrittenExpression). (length e.nodes ≡ size (expression_tree e)) × (length e.nodes ≤ c.args.max_nodes)) (sym c.of.ensures) (c.in-Ok.ensures.size c.args.max_nodes c.new-builder.ensures)

pub returns-in-Ok-clause-no_fault : goal.returns-in-Ok-clause-no_fault
returns-in-Ok-clause-no_fault c = c.in-Ok.ensures.no_fault c.args.max_nodes c.new-builder.ensures
