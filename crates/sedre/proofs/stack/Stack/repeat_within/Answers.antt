use Rattle.std.proofs.Common.{◌++◌, ◌-◌, ◌+◌, [], arith, refl, nat_eq}
use Rattle.sedre.specs.Grammar.{with_copies, further}
use Rattle.sedre.proofs.Stacked.{on_ok_map}
use Rattle.sedre.proofs.Repeated.{split_copies, within, from_is}
use Rattle.sedre.proofs.stack.Stack.repeat_within.Goals as goal

pub returns-clause-trees : goal.returns-clause-trees
returns-clause-trees c = on_ok_map c.concatenate.result _ _ (λ f limit ts a s.
    f limit ts (with_copies c.args.least a (further (c.args.least + c.args.more - c.args.least) a (nat_eq c.args.least 0))) (from_is limit ts a c.args.self.now _ s (omega (arith, c.len-from.ensures)))
    (within limit ts a c.nest.new.self c.args.least (c.args.more - 1) (c.args.least + c.args.more) _ refl (omega (arith, c.requires.more))
    (c.in_ok-nest.ensures.trees limit (ts ++ with_copies c.args.least a []) a
    (split_copies limit ts a c.copies.new.self c.args.least (c.args.more - 1) (c.args.least + c.args.more - 1) (omega (arith, c.requires.more)) (c.in_ok-copies.ensures.trees limit ts a s))))) c.concatenate.ensures.trees
