use Rattle.std.proofs.Common.{refl}
use Rattle.sedre.proofs.Stacked.{on_ok_map}
use Rattle.sedre.proofs.Represented.{represents_leaf}
use Rattle.sedre.proofs.builder.Builder.leaf.Goals as goal

pub returns-clause-state : goal.returns-clause-state
returns-clause-state c = on_ok_map c.leaf.result _ _ (λ f limit s t l r. represents_leaf limit t c.args.self.now _ s r (λ ts st. f limit ts t l st) refl refl refl) c.leaf.ensures.trees
