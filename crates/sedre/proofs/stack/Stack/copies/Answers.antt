use Rattle.std.proofs.Common.{ℕ, ◌++◌, ◌∷◌, [], ◌≡◌, arith, subst}
use Rattle.sedre.specs.Grammar.{with_copies}
use Rattle.sedre.specs.Stacks.{StoresTrees}
use Rattle.sedre.proofs.Repeated.{copies_start, copies_step}
use Rattle.sedre.proofs.stack.Stack.copies.Goals as goal

pub loop-init : goal.loop-init
loop-init c = record { made = omega arith; trees = λ limit ts a s. copies_start limit ts a c.args.self.now s }

pub loop-preserved : goal.loop-preserved
loop-preserved c = record {
  made = omega (arith, c.loop.invariant.made, c.in_ok-copy.ensures.count);
  trees = λ limit ts a s. copies_step limit ts a c.copy.new.self c.loop.counter (c.in_ok-copy.ensures.trees limit (ts ++ with_copies c.loop.counter a []) a (c.loop.invariant.trees limit ts a s));
}

pub returns-clause-trees : goal.returns-clause-trees
returns-clause-trees c = λ limit ts a s.
    let P : ℕ → Type 0 = λ n. StoresTrees limit c.loop.self ((ts ++ with_copies n a []) ++ a ∷ []) in
    subst P (let e : c.loop.counter ≡ c.args.count = omega arith in e) (c.loop.invariant.trees limit ts a s)
