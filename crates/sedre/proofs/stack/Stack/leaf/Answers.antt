use Rattle.sedre.proofs.Stacked.{on_ok_map, stored_leaf}
use Rattle.sedre.proofs.stack.Stack.leaf.Goals as goal

pub returns-clause-trees : goal.returns-clause-trees
returns-clause-trees c = on_ok_map c.put.result _ _ (λ p limit ts t l s. stored_leaf limit c.args.self.now _ ts t c.args.node c.end-end.result l s c.end-end.ensures p) c.put.ensures.put
