use Rattle.sedpass.proofs.Words.{true, false, expression_tree, rules, length-append, TakesAtLeast, IsCounted}
use Rattle.sedpass.proofs.FactLemmas.{facts_more, nulls_more, parents_more}
use Rattle.sedpass.proofs.nodes.Analysis.fit.Goals as goal

pub loop-x-preserved : goal.loop-x-preserved
unfolding TakesAtLeast IsCounted
loop-x-preserved c =
    let e = c.args.expr.now in
    let old = c.loop-x.invariant in
    let node = rw c.id.ensures at c.look-node.ensures.node in
    let here = rw (← old.all) at node in
    let is = c.facts_of-next.ensures e.nodes e.groups c.groups-groups.ensures.expr old.facts here in
    let begins = nulls_more e.nodes true c.loop-x.self.begin_tells _ _ _ _ c.look-node.ensures.arena node (rw old.all at is) c.edge_tells.ensures old.begins in
    let ends = nulls_more e.nodes false c.loop-x.self.end_tells _ _ _ _ c.look-node.ensures.arena node (rw old.all at is) c.edge_tells-in-loop-x.ensures old.ends in
    let facts = facts_more e.nodes c.look-node.ensures.arena _ _ _ old.facts here is in
    let parents = parents_more e.nodes c.look-node.ensures.arena _ _ _ _ old.noted node c.note_parent.ensures.parts (rw c.push_reserved-in-loop-x.ensures.items at c.note_parent.ensures.others) old.parents in
    rw c.push_reserved.ensures.items (search (rules, length-append))

pub returns-clause-analysis : goal.returns-clause-analysis
returns-clause-analysis c = search (rules, c.none.ensures (expression_tree c.args.expr.now))
