use Rattle.std.proofs.Common.{ℕ, ◌++◌, ◌-◌, ◌+◌, [], arith, false}
use Rattle.sedre.specs.Tree.{sequence}
use Rattle.sedre.specs.Grammar.{with_copies, optional}
use Rattle.sedre.proofs.Repeated.{nest_start, nest_before, nest_step, nest_end}
use Rattle.sedre.proofs.stack.Stack.nest.Goals as goal

pub loop-held-init : goal.loop-held-init
loop-held-init c = record {
  left = omega (arith, c.in_ok-cover.ensures.count);
  trees = λ limit ts a s. nest_start limit ts a c.cover.new.self c.args.count c.args.first c.is_first.result c.is_first.ensures (c.in_ok-cover.ensures.trees limit (ts ++ with_copies c.args.count a []) a s);
}

pub loop-held-preserved : goal.loop-held-preserved
loop-held-preserved c = record {
  left = omega (arith, c.loop-held.invariant.left, c.in_ok-join.ensures.count, c.in_ok-cover-2.ensures.count);
  trees = λ limit ts a s.
      let k : ℕ = c.loop-held.held in
      let us = ts ++ with_copies (c.args.count - (k + 1)) a [] in
      nest_step limit ts a c.cover-in-loop-held.new.self k c.args.count c.args.first c.is_first-in-loop-held.result c.is_first-in-loop-held.ensures
      (c.in_ok-cover-2.ensures.trees limit us (sequence a (optional k a false))
      (c.in_ok-join.ensures.trees limit us a (optional k a false) (nest_before limit ts a c.loop-held.self k c.args.count c.args.first (omega arith) (c.loop-held.invariant.trees limit ts a s))));
}

pub returns-clause-trees : goal.returns-clause-trees
returns-clause-trees c = λ limit ts a s. nest_end limit ts a c.loop-held.self c.loop-held.held c.args.count c.args.first (omega arith) (c.loop-held.invariant.trees limit ts a s)
