use Rattle.sedpass.proofs.Words.{arith, length, rules, ℕ, ◌<◌, ◌≡◌, ◌≤◌, TakesAtLeast, one_start, KeepsRegion, Meet, MeetsAt}
use Rattle.sedpass.proofs.ForwardLemmas.{forward_one_still}
use Rattle.sedpass.proofs.KeptLemmas.{coded, follows_first, holds_then, keeps_then, meet_end, shown_as}
use Rattle.sedpass.proofs.OwedLemmas.{owed_falls}
use Rattle.sedpass.proofs.kept.Kept.cut.Goals.{After-meet-reached}
use Rattle.sedpass.proofs.kept.Kept.cut.Goals as goal

-- the region is kept, over what was passed so far too
keeps : (c : After-meet-reached) → KeepsRegion c.args.subject.prepared.now c.args.subject.text.now c.args.table.now c.ready-to.new.table c.args.self.now c.ready-to.new.self
keeps c = keeps_then _ _ _ _ _ _ _ _ c.loop-place.invariant.keeps c.ready-to.ensures.keeps

-- the passes meet at each place up to the one reached
meets : (c : After-meet-reached) → Meet c.args.subject.prepared.now c.args.subject.text.now c.args.table.now c.args.self.now c.args.a c.args.from c.args.from c.meet-reached.result.0
meets c = holds_then _ c.args.from c.loop-place.place c.meet-reached.result.0 c.loop-place.invariant.meets
    (shown_as (λ r t. (q : ℕ) → c.loop-place.place ≤ q → q < c.meet-reached.result.0 → MeetsAt c.args.subject.prepared.now.nodes c.args.subject.text.now r t c.args.a (one_start c.args.from) q) _ _ _ _ _ _ (keeps c)
    (c.meet-reached.ensures.meets c.args.a c.args.from (omega (arith, c.requires.a, (keeps c).same.root)) c.loop-place.invariant.order.0 c.loop-place.invariant.follows).1)

pub loop-place-init : goal.loop-place-init
unfolding TakesAtLeast
loop-place-init c =
    let codes = c.first-code.ensures.codes in
    let new = coded c.offset_of-offset.result codes c.offset_of-offset.ensures in
    record {
      order = omega (arith, c.requires.from);
      keeps = search (rules, c.requires.kept);
      forward_one = forward_one_still c.args.subject.prepared.now c.args.forward_one.now c.first-code.new.self c.requires.forward_one codes.table codes.adds.shape;
      forward_one_shape = search rules;
      offset = new.0;
      follows = follows_first c.args.subject.prepared.now c.args.subject.text.now c.args.forward_one.now c.first-code.new.self c.args.a c.args.from c.offset_of-offset.result c.kind_of-kind.result c.requires.forward_one.forwards codes.adds.shape.0 c.kind_of-kind.ensures.begin (rw c.len.ensures.is at c.kind_of-kind.ensures.end) new.1;
      meets = λ q after before. absurd (omega arith);
      cost = omega arith;
      counts = omega arith;
    }

pub loop-place-preserved : goal.loop-place-preserved
unfolding TakesAtLeast
loop-place-preserved c =
    let old = c.loop-place.invariant in
    let ready = c.ready-to.ensures in
    let meet = c.meet-reached.ensures in
    let stop = c.meet-reached.result.0 in
    let here = (goal.at.loop-place-preserved c).After-meet-reached in
    let at : stop ≡ c.ready-to.new.self.region.to = omega (arith, meet.order.1, c.if-place-to.false, ready.to.0) in
    let up : c.loop-place.place < stop = omega (arith, ready.to, at) in
    let reached = c.meet-reached.ensures.meets c.args.a c.args.from (omega (arith, c.requires.a, (keeps here).same.root)) c.loop-place.invariant.order.0 c.loop-place.invariant.follows in
    search (rules, old, ready, meet, meet.whole at, at, up, keeps here, reached, meets here, owed_falls (length c.args.subject.prepared.now.nodes) c.ready-to.new.self.region c.loop-place.place stop (omega (arith, up)), ready.cost)

pub returns-then-place-to-clause-keeps : goal.returns-then-place-to-clause-keeps
returns-then-place-to-clause-keeps c = keeps (goal.at.returns-then-place-to-clause-keeps c).After-meet-reached

pub returns-then-place-to-clause-ceases : goal.returns-then-place-to-clause-ceases
returns-then-place-to-clause-ceases c =
    let here = (goal.at.returns-then-place-to-clause-ceases c).After-meet-reached in (
      omega (arith, c.loop-place.invariant.order.0, c.meet-reached.ensures.order.0),
      meets here,
      shown_as (λ r t. MeetsAt c.args.subject.prepared.now.nodes c.args.subject.text.now r t c.args.a (one_start c.args.from) c.meet-reached.result.0 → ⊥) _ _ _ _ _ _ (keeps here)
          ((c.meet-reached.ensures.meets c.args.a c.args.from (omega (arith, c.requires.a, (keeps here).same.root)) c.loop-place.invariant.order.0 c.loop-place.invariant.follows).2 (omega (arith, c.if-place-to.true, c.ready-to.ensures.to.0))),
    )

pub returns-then-place-to-clause-cost : goal.returns-then-place-to-clause-cost
returns-then-place-to-clause-cost c =
    let meet = c.meet-reached.ensures in
    omega (arith, c.first-code.ensures.cost, c.loop-place.invariant.cost, c.ready-to.ensures.cost, meet.cost, owed_falls (length c.args.subject.prepared.now.nodes) c.ready-to.new.self.region c.loop-place.place c.meet-reached.result.0 meet.order.0)

pub returns-clause-ceases : goal.returns-clause-ceases
returns-clause-ceases c =
    let last = c.loop-place.invariant in
    let at : c.args.self.now.region.end ≡ c.loop-place.place = omega (arith, last.keeps.same.end, last.order.1, c.loop-place-test.false) in
    (last.order.0, last.meets, rw (← at) (meet_end _ _ c.args.table.now c.args.self.now c.args.a c.args.from c.requires.kept))
