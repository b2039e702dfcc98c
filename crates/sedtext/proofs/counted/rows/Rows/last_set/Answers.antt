use Rattle.sedtext.proofs.Words.{◌/◌, ◌-◌, arith}
use Rattle.sedtext.proofs.WordLemmas.{none_more, word_at}
use Rattle.sedtext.proofs.counted.rows.Rows.last_set.Goals as goal

pub loop-x-preserved : goal.loop-x-preserved
loop-x-preserved c = record {
  steps = c.loop-x.invariant.steps;
  to = omega (arith, c.loop-x.invariant.to);
  clear = λ n low high.
      grind (arith, c.loop-x.invariant.clear n, none_more c.self.inside _ c.self.view_is c.self.invariant _ _ ((c.loop-x.x - 1) / 64) _ _ _ c.requires.row c.requires.inside c.get.ensures c.highest_below.ensures.clear (omega arith) n);
}

pub returns-then-end-base-clause-clear : goal.returns-then-end-base-clause-clear
returns-then-end-base-clause-clear c n low high =
    grind (arith, c.loop-x.invariant.clear n, none_more c.self.inside _ c.self.view_is c.self.invariant _ _ ((c.loop-x.x - 1) / 64) _ _ _ c.requires.row c.requires.inside c.get.ensures c.highest_below.ensures.clear (omega arith) n)

pub returns-then-end-base-clause-set : goal.returns-then-end-base-clause-set
returns-then-end-base-clause-set c more =
    grind (arith, word_at c.self.inside _ c.self.view_is c.self.invariant _ _ ((c.loop-x.x - 1) / 64) _ c.requires.row c.requires.inside c.get.ensures (c.highest_below.result - 1), c.highest_below.ensures.set)
