use Rattle.std.proofs.Common.{◌++◌, [], arith, refl, nat_eq, ◌∷◌}
use Rattle.sedre.specs.Tree.{any_copies}
use Rattle.sedre.specs.Grammar.{with_copies}
use Rattle.sedre.proofs.Stacked.{on_ok_map}
use Rattle.sedre.proofs.Repeated.{open_end, from_is}
use Rattle.sedre.proofs.stack.Stack.repeat_from.Goals as goal

pub returns-clause-trees : goal.returns-clause-trees
returns-clause-trees c = on_ok_map c.concatenate.result _ _ (λ f limit ts a s.
    f limit ts (with_copies c.args.least a (any_copies a (nat_eq c.args.least 0) ∷ [])) (from_is limit ts a c.args.self.now _ s (omega (arith, c.len-from.ensures)))
    (open_end limit ts a c.cover.new.self c.args.least _ refl (c.in_ok-cover.ensures.trees limit (ts ++ with_copies c.args.least a []) a (c.in_ok-copies.ensures.trees limit ts a s)))) c.concatenate.ensures.trees
