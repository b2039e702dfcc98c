use Rattle.std.proofs.Common.{arith}
use Rattle.sedre.specs.Tree.{null_string}
use Rattle.sedre.proofs.Stacked.{on_ok_map, stored_none, empty_leaf}
use Rattle.sedre.proofs.stack.Stack.concatenate.Goals as goal

pub returns-then-len-from-clause-trees : goal.returns-then-len-from-clause-trees
returns-then-len-from-clause-trees c = on_ok_map c.leaf.result _ _ (λ f limit ts ps h s. stored_none limit c.args.self.now _ ts ps (omega (arith, h)) s (λ st. f limit ts null_string empty_leaf st)) c.leaf.ensures.trees
