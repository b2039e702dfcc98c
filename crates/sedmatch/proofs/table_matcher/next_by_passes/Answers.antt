use Rattle.sedmatch.proofs.OccurrenceLemmas.{after_look, none_shown}
use Rattle.sedmatch.proofs.table_matcher.next_by_passes.Goals as goal

pub returns-then-has_none-clause-answered : goal.returns-then-has_none-clause-answered
returns-then-has_none-clause-answered c =
    rw (← c.of.ensures.is) (none_shown c.of.result c.args.text.now c.args.last c.args.occurrences.now _ _ (rw c.of.ensures.is c.of.ensures.expr.arena.nonempty) (c.has_none.ensures.none c.if-has_none.true) c.has_none.ensures.cost)

pub returns-in-Some-clause-answered : goal.returns-in-Some-clause-answered
returns-in-Some-clause-answered c =
    rw (← c.of.ensures.is) (after_look c.of.result c.args.text.now c.args.last c.args.occurrences.now _ _ _ _ _ (rw c.of.ensures.is c.of.ensures.expr.arena.nonempty) c.has_none.ensures.cost c.next_by.ensures.first c.next_by.ensures.answered)
