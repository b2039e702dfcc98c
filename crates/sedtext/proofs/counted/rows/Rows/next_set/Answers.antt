use Rattle.sedtext.proofs.Words.{◌/◌, arith}
use Rattle.sedtext.proofs.WordLemmas.{none_more, word_at}
use Rattle.sedtext.proofs.counted.rows.Rows.next_set.Goals as goal

pub loop-x-preserved : goal.loop-x-preserved
loop-x-preserved c = record {
  steps = c.loop-x.invariant.steps;
  from = omega (arith, c.loop-x.invariant.from, c.lowest_from.ensures.order);
  clear = λ n from high under.
      grind (arith, c.loop-x.invariant.clear n, none_more c.self.inside _ c.self.view_is c.self.invariant _ _ (c.loop-x.x / 64) _ _ _ c.requires.row c.requires.inside c.get.ensures c.lowest_from.ensures.clear c.lowest_from.ensures.order.1 n);
}

pub returns-then-next-x-clause-clear : goal.returns-then-next-x-clause-clear
returns-then-next-x-clause-clear c n from high =
    grind (arith, c.loop-x.invariant.clear n, none_more c.self.inside _ c.self.view_is c.self.invariant _ _ (c.loop-x.x / 64) _ _ _ c.requires.row c.requires.inside c.get.ensures c.lowest_from.ensures.clear c.lowest_from.ensures.order.1 n)

pub returns-then-next-x-clause-set : goal.returns-then-next-x-clause-set
returns-then-next-x-clause-set c less =
    grind (arith, word_at c.self.inside _ c.self.view_is c.self.invariant _ _ (c.loop-x.x / 64) _ c.requires.row c.requires.inside c.get.ensures c.lowest_from.result, c.lowest_from.ensures.set)
