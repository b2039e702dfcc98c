use Rattle.std.proofs.Common.{◌-◌, arith, nat_eq}
use Rattle.sedre.specs.Grammar.{with_copies, further}
use Rattle.sedre.proofs.Stacked.{on_ok_map}
use Rattle.sedre.proofs.Repeated.{exactly, from_is}
use Rattle.sedre.proofs.stack.Stack.repeat_exactly.Goals as goal

pub returns-clause-trees : goal.returns-clause-trees
returns-clause-trees c = on_ok_map c.concatenate.result _ _ (λ f limit ts a s.
    f limit ts (with_copies c.args.count a (further (c.args.count - c.args.count) a (nat_eq c.args.count 0))) (from_is limit ts a c.args.self.now _ s (omega (arith, c.len-from.ensures)))
    (exactly limit ts a c.copies.new.self c.args.count (c.args.count - 1) (omega (arith, c.requires.once)) (c.in_ok-copies.ensures.trees limit ts a s))) c.concatenate.ensures.trees
