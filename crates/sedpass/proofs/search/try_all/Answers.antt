use Rattle.sedpass.proofs.Words.{cases_lt, arith, length, mul-le-mul_left, rules, ◌*◌, ◌+◌, ◌-◌, ◌≤◌, mul-sub, TakesAtLeast, Matches-forward, Matches-within, NoneIn, expression_tree}
use Rattle.sedpass.proofs.SearchLemmas.{none_more}
use Rattle.sedpass.proofs.search.try_all.Goals.{After-run-passed}
use Rattle.sedpass.proofs.search.try_all.Goals as goal

-- none begins before the place that is tried, which is the first at which one can begin,
before : (c : After-run-passed) → NoneIn (expression_tree c.args.subject.prepared.now) c.args.subject.text.now c.args.from c.in-Some.first
before c h l low high span = search (rules, c.loop-start.invariant.none h l, (c.in-Some.ensures.narrowed (expression_tree c.args.subject.prepared.now) c.hints-hints.ensures).2 h l, cases_lt h c.loop-start.start)

-- the trials before went over no more places than the text has
enough : (c : After-run-passed) → c.args.tried.now ≤ length c.args.subject.text.now
enough c = grind (arith, c.loop-start.invariant.first, c.if-tried-most.false)

-- what the trial cost
paid : (c : After-run-passed) → c.run-passed.new.steps + 3 * c.loop-start.start
    ≤ c.loop-start.steps + (3 * (c.in-Some.first + 1) + 40 * length c.args.subject.prepared.now.nodes * (c.run-passed.result.place + 1 - c.in-Some.first))
paid c =
    let m = length c.args.subject.prepared.now.nodes in
    omega (arith, mul-sub m (c.run-passed.result.place + 1) c.in-Some.first, mul-le-mul_left m c.run-passed.ensures.after, c.in-Some.ensures.cost.1, c.in-Some.ensures.lies, c.run-passed.ensures.cost.1)

pub returns-in-Some-end-clause-made : goal.returns-in-Some-end-clause-made
unfolding TakesAtLeast
returns-in-Some-end-clause-made c =
    let here = (goal.at.returns-in-Some-end-clause-made c).After-run-passed in
    let e = expression_tree c.args.subject.prepared.now in
    let w = c.args.subject.text.now in
    let next = c.in-Some.ensures in
    let run = c.run-passed.ensures in
    let i = c.loop-start.invariant in
    let long = rw c.in-Some-end.is at run.longest i.forward_one.single in
    let reached = rw c.in-Some-end.is at run.reached in
    let on = Matches-forward e w c.in-Some.first c.in-Some-end.end long.0 in
    let less = mul-le-mul_left {m = c.run-passed.result.place + 1 - c.in-Some.first} {n = (c.run-passed.result.place - c.in-Some-end.end) + (c.in-Some-end.end + 1 - c.in-Some.first)} (length c.args.subject.prepared.now.nodes) (omega (arith, on, run.after)) in
    let within = Matches-within e w c.in-Some.first c.in-Some-end.end (omega (arith, run.after, run.within)) long.0 in
    rw c.saturating_sub.ensures (record {
      answer = (record { after = omega (arith, i.after, next.lies.0); spans = long.0; longest = long.1; leftmost = before here }, within);
      few = omega (arith, i.few (omega (arith, c.if-tried-most.false)), reached, run.within, i.after, next.lies.0, on);
      cost = omega (arith, i.cost, next.cost.0, run.cost.0, paid here, less);
      counts = omega (arith, i.counts, next.counts, run.counts, reached, on);
      enough = λ over. absurd (omega (arith, enough here));
      none = search rules;
    })

pub loop-start-preserved : goal.loop-start-preserved
unfolding TakesAtLeast
loop-start-preserved c =
    let here = (goal.at.loop-start-preserved c).After-run-passed in
    let next = c.in-Some.ensures in
    let run = c.run-passed.ensures in
    let i = c.loop-start.invariant in
    let none = none_more (expression_tree c.args.subject.prepared.now) c.args.subject.text.now c.args.from c.in-Some.first (before here) (search (rules, run.longest i.forward_one.single)) in
    search (rules, none, i.few (omega (arith, c.if-tried-most.false)), enough here, paid here, i, next, run)
