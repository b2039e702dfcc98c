use Rattle.sedpass.proofs.Words.{rules, ◌≡◌, ◌+◌, ◌*◌, ◌≤◌, ap, mul-le-mul_left, ◌-◌, ◌<◌, length, inl, arith, close_at, Star, HasSpan, least_none, least_both, nodes_in, subject_text}
use Rattle.sedpass.proofs.KeptLemmas.{space_then}
use Rattle.sedpass.proofs.DecideLemmas.{copy_fixed, ends_there}
use Rattle.sedpass.proofs.MeetingLemmas.{copy_walk, stops_at_copy, NextCopy}
use Rattle.sedpass.proofs.TurnLemmas.{opened}
use Rattle.sedpass.proofs.groups.last_copy.Goals.{After-cut-end}
use Rattle.sedpass.proofs.groups.last_copy.Goals as goal

pub overflow_sub-result : goal.overflow_sub-result
overflow_sub-result c =
    omega (arith, (copy_fixed c.args.subject c.args.here c.args.a c.args.first _ c.in-Some.length _ c.requires.stands (omega (arith, c.requires.stands.there.up, c.if-here.false)) c.index-part.ensures c.facts.ensures.facts c.in-Some.is).0)

pub returns-in-Some-clause-copy : goal.returns-in-Some-clause-copy
returns-in-Some-clause-copy c =
    let some : c.args.here.start < c.args.here.stop = omega (arith, c.requires.stands.there.up, c.if-here.false) in
    inl (some, (copy_fixed c.args.subject c.args.here c.args.a c.args.first _ c.in-Some.length _ c.requires.stands some c.index-part.ensures c.facts.ensures.facts c.in-Some.is).1)

pub copies-init : goal.copies-init
copies-init c = search (rules, opened c.args.subject c.args.here (Star c.args.a c.args.first) c.requires.stands, least_none)

-- the end of the next copy
next : (c : After-cut-end) → NextCopy (HasSpan (nodes_in c.args.subject) (subject_text c.args.subject) c.args.a.index) c.copies.end c.args.here.stop c.cut-end.result
next c =
    let stands = c.requires.stands in
    let inv = c.copies.invariant in
    let there = ends_there c.args.subject c.copies.tables c.copies.kept c.args.here (Star c.args.a c.args.first) (record { stands = stands; ends = inv.ends; desk = inv.desk.desk }) in
    stops_at_copy _ _ c.copies.kept.region.root c.args.here.stop c.args.here.node c.args.a c.args.first stands.arena inv.ends.0 stands.is c.copies.end c.cut-end.result
    (close_at _ _ c.args.here.node (Star c.args.a c.args.first) stands.arena stands.is c.copies.end c.args.here.stop inv.rest) c.copies-test.true (rw (c.index-part.ensures, there) at c.cut-end.ensures.ceases)

pub copies-smaller : goal.copies-smaller
copies-smaller c = search (rules, next (goal.at.copies-smaller c).After-cut-end)

pub copies-preserved : goal.copies-preserved
copies-preserved c =
    let inv = c.copies.invariant in
    let cut = c.cut-end in
    let next = next (goal.at.copies-preserved c).After-cut-end in
    let m = length (nodes_in c.args.subject) in
    let long = cut.result - c.copies.end in
    let some : 1 ≤ long = omega (arith, next.after) in
    let passed : 36 * m * (cut.result + 1) ≡ 36 * m * (c.copies.end + long + 1) = ap (λ v. 36 * m * v) (omega (arith, next.after)) in
    let left : 72 * m * (c.args.here.stop - c.copies.end) ≡ 72 * m * ((c.args.here.stop - cut.result) + long) = ap (λ v. 72 * m * v) (omega (arith, next.after, next.within)) in
    record {
      desk = search (rules, space_then, cut.ensures.keeps, cut.ensures.forward_one, cut.ensures.shape, inv.desk);
      ends = search rules;
      order = search rules;
      rest = search rules;
      walk = λ k h. inv.walk k (inl (c.copies-test.true, copy_walk _ c.copies.end c.args.here.stop cut.result k next h));
      cost = (omega (arith, inv.cost.0, cut.ensures.cost.0), omega (arith, inv.cost.1, cut.ensures.cost.1, passed, left, mul-le-mul_left (36 * m) some));
      counts = least_both _ _ _ _ _ _ inv.counts cut.ensures.counts (omega (arith, inv.order.0, next.after));
    }
