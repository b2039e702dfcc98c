use Rattle.sedre.proofs.Written.{popped}
use Rattle.sedre.proofs.Stacked.{on_ok_map, stored_cover}
use Rattle.sedre.proofs.stack.Stack.cover.Goals as goal

pub returns-clause-trees : goal.returns-clause-trees
returns-clause-trees c = on_ok_map c.put.result _ _
    (λ p limit ts a s. stored_cover c.args.cover limit c.args.self.now _ ts a _ c.unwrap-part.result c.root_at.result c.cover_node.result c.deeper-depth.result s (popped _ _ _ _ c.pop.ensures.items c.unwrap-part.ensures)
    c.root_at.ensures c.cover_node.ensures c.deeper-depth.ensures p) c.put.ensures.put
