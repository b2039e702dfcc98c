use Rattle.std.proofs.Common.{◌∙◌, ap, arith, take, refl}
use Rattle.sedre.proofs.Written.{popped}
use Rattle.sedre.proofs.Stacked.{stored_drop, no_part}
use Rattle.sedre.proofs.stack.Stack.drop_last.Goals as goal

pub returns-clause-trees : goal.returns-clause-trees
returns-clause-trees c = λ limit ts a s. stored_drop limit c.args.self.now _ ts a _ s (popped _ _ _ _ c.pop.ensures.items (c.pop.ensures.value no_part (omega (arith, c.requires)))) refl
    (c.truncate.ensures ∙ ap (λ k. take k c.args.self.now.nodes) c.end-base.ensures)
