use Rattle.sedre.specs.Tree.{null_string}
use Rattle.sedre.proofs.Stacked.{on_ok_map, empty_leaf}
use Rattle.sedre.proofs.stack.Stack.repeat_never.Goals as goal

pub returns-clause-trees : goal.returns-clause-trees
returns-clause-trees c = on_ok_map c.leaf.result _ _ (λ f limit ts a s. f limit ts null_string empty_leaf (c.drop_last.ensures.trees limit ts a s)) c.leaf.ensures.trees
