use Rattle.sedmatch.proofs.Words.{refl, ℕ, ◌+◌, ◌-◌, ◌*◌, ◌≤◌, length, rules, sym, arith, mul-le-mul_left, mul-le-mul_right, StepsWithin, Takes, expression_tree, least_less, least_since, least_up, found-iff, not_found-iff, report-iff, report_lies, space_then, enters_later, square, group_depth}
use Rattle.sedmatch.proofs.RoomLemmas.{desk_still, unused, used}
use Rattle.sedmatch.specs.Passes.{IsDesk}
use Rattle.sedmatch.proofs.whole.find.Goals.{After-next_kept}
use Rattle.sedmatch.proofs.whole.find.Goals as goal

-- what a look at each of m nodes costs, and the search for the first match from p on in a text of n bytes
module _ (m n p s t u : ℕ) (ready : Takes s t m) (sought : Takes t u (142 * m * (n - p) + 42 * m)) where
  most : u ≤ s + (142 * m * n + 43 * m)
  most = let low : n - p ≤ n = omega arith in omega (arith, mul-le-mul_left (142 * m) low)

  bare_cost : StepsWithin s u (64 * m * (n + 1) * (n + 1)) × StepsWithin s u (143 * m * (n + 1))
  bare_cost = (omega (arith, most, mul-le-mul_left m (square n)), omega (arith, most))

  none_cost : (k : ℕ) → Takes s u (64 * m * m * (n + 1) * (n + 1)) × StepsWithin s u (172 * m * (k + 1) * (n + 1)) × StepsWithin s u (64 * m * (n + 1) * (n + 1)) × StepsWithin s u (143 * m * (n + 1))
  none_cost k = grind (arith, bare_cost, mul-le-mul_right (64 * (n + 1) * (n + 1)) (square m))

  -- and its groups, of such a depth, for a match of l bytes
  all_cost : (k l v : ℕ) → k + 1 ≤ m → l ≤ n → Takes u v (172 * m * k * l + 2 * m) → Takes s v (64 * m * m * (n + 1) * (n + 1)) × StepsWithin s v (172 * m * (k + 1) * (n + 1))
  all_cost k l v deep low decided =
      let long = mul-le-mul_left (172 * m * k) low in
      let squares = mul-le-mul_right (64 * (n + 1) * (n + 1)) (mul-le-mul_left m deep) in (
        (omega arith, omega (arith, most, long, mul-le-mul_left m (square n), mul-le-mul_left (m * k) (square n), squares)),
        omega (arith, most, long),
      )

-- the desk after the search
searched_desk : (c : After-next_kept) → let d = c.scratch.inside.desk in let new = c.next_kept.new in
    IsDesk (record d { room = record d.room { kept = new.kept }; reverse_any = new.reverse_any; shared = record d.shared { forward_one = new.forward_one } })
searched_desk c =
    let d = c.scratch.inside.desk in
    let p = c.of.result in
    let new = c.next_kept.new in
    let next = c.next_kept.ensures in
    let shapes = next.tables in
    (desk_still p d (record d { room = record d.room { kept = new.kept }; reverse_any = new.reverse_any; shared = record d.shared { forward_one = new.forward_one } }) c.scratch.invariant.0 refl refl
    (space_then _ _ _ c.begin.ensures.space shapes.space) c.scratch.invariant.0.space.none (omega arith) (used p d.reverse_any c.fit-3.new.self new.reverse_any c.fit-3.ensures.room shapes.reverse_any_shape next.next.kept.region.table)
    (unused p d.shared.forward_any) (unused p d.shared.reverse_one) (used p d.shared.forward_one c.fit-2.new.self new.forward_one c.fit-2.ensures.room shapes.forward_one_shape shapes.forward_one.table) (unused p d.shared.forward_part)).0

pub shared_groups-groups-requires-clause-desk : goal.shared_groups-groups-requires-clause-desk
shared_groups-groups-requires-clause-desk c = (searched_desk (goal.at.shared_groups-groups-requires-clause-desk c).After-next_kept, search rules, rw c.of.ensures.is (search rules))

pub invariant_of-scratch : goal.invariant_of-scratch
invariant_of-scratch c = (searched_desk (goal.at.invariant_of-scratch c).After-next_kept, c.fit.ensures.room c.scratch.inside.desk.max_nodes c.scratch.invariant.1)

pub invariant_of-scratch-2 : goal.invariant_of-scratch-2
invariant_of-scratch-2 c = let desk = c.shared_groups-groups.ensures.desk in (desk.0, rw desk.2 (c.fit.ensures.room c.scratch.inside.desk.max_nodes c.scratch.invariant.1))

pub returns-in_err-span : goal.returns-in_err-span
returns-in_err-span c =
    let cost = none_cost _ _ _ _ _ _ c.fit.ensures.cost (rw c.of.ensures.is at c.next_kept.ensures.each) (group_depth (expression_tree c.args.expr.now)) in
    let answer = rw (c.of.ensures.is, c.in_err-span.was) at c.next_kept.ensures.next.answer in
    rw c.from_residual.ensures (search (rules, cost, sym ((not_found-iff (expression_tree c.args.expr.now) c.args.text.now c.args.from c.requires.from).1 answer.1)))

pub returns : goal.returns
returns c =
    let e = expression_tree c.args.expr.now in
    let w = c.args.text.now in
    let i = c.in_ok-span.span.0 in
    let j = c.in_ok-span.span.1 in
    let r = c.shared_groups-groups.result in
    let ready = c.fit.ensures.cost in
    let sought = rw c.of.ensures.is at c.next_kept.ensures.each in
    let groups = rw c.of.ensures.is at c.shared_groups-groups.ensures.answered in
    let is = rw (c.of.ensures.is, c.in_ok-span.was) at c.next_kept.ensures.next.answer in
    let all = all_cost _ _ _ _ _ _ ready sought (group_depth e) (j - i) _ (omega (arith, groups.deep)) (omega (arith, is.2.1)) groups.cost in
    record {
      scratch = search rules;
      answer = (is.0, tt, groups.report, report_lies (length w) e w i j r is.2.0 is.2.1 groups.report);
      computed = (sym ((found-iff e w c.args.from i j c.requires.from).1 is.0), (report-iff e w i j r is.0.spans).1 groups.report);
      cost = all.0;
      linear_cost = all.1;
      cost_without_groups = λ none. rw (groups.none_cost none) (bare_cost _ _ _ _ _ _ ready sought);
      cost_of_none = tt;
      counts = least_up _ _ _ _ (least_since _ _ _ _ ready.0 (least_less _ _ _ _ c.in_ok-span.ensures.next.counts (omega (arith, is.0.after)))) groups.cost.0;
      entered = enters_later e w i j _ _ _ (omega (arith, ready.0, sought.0)) groups.entered;
    }
