use Rattle.std.proofs.Common.{◌≤◌, ℕ, List, Contains, length-take, subst, sym, arith}
use Rattle.std.proofs.lemmas.List.{take_all}
use Rattle.sedacts.proofs.BlockLemmas.{clear_more}
use Rattle.sedacts.proofs.block.clear_end.Goals as goal

pub each-preserved : goal.each-preserved
each-preserved c =
    let fewer : c.clear_for-end.result ≤ c.each.end = omega (arith, c.clear_for-end.ensures.within, length-take c.each.end c.args.text.now) in
    record {
      within = omega (arith, fewer, c.each.invariant.within);
      clear = clear_more c.args.matchers.now.items c.args.expressions.now c.each.e-index _ c.args.text.now c.each.end c.clear_for-end.result c.each-test.true fewer c.each.invariant.clear c.clear_for-end.ensures.clear;
    }

pub returns-clause-clear : goal.returns-clause-clear
returns-clause-clear c = λ e has.
    let all = take_all c.each.e-index c.args.expressions.now c.each-test.false in
    c.each.invariant.clear e (subst (λ (xs : List ℕ). Contains xs e) (sym all) has)
