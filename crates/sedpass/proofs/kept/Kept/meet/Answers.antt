use Rattle.sedpass.proofs.Words.{IsTrue, ap, arith, rules, sym, true≢false, ℕ, ◌+◌, ◌↔◌, ◌∙◌, ◌≡◌, IsCounted, TakesAtLeast, eq-eqb, eqb-true, one_start, Follows, ends_shown, MeetsAt, leaves_row}
use Rattle.sedpass.proofs.ForwardLemmas.{forward_one_still}
use Rattle.sedpass.proofs.KeptLemmas.{coded, follows_next, holds_on, meet_read}
use Rattle.sedpass.proofs.kept.Kept.meet.Goals.{After-meets}
use Rattle.sedpass.proofs.kept.Kept.meet.Goals as goal

-- whether the passes meet, as it is read
met : (c : After-meets) → (a i : ℕ) → Follows c.args.subject.prepared.now c.args.subject.text.now c.loop-place.forward_one a i c.loop-place.place c.loop-place.offset →
    IsTrue c.meets.result ↔ MeetsAt c.args.subject.prepared.now.nodes c.args.subject.text.now c.args.self.now.region.root (ends_shown c.args.table.now.way.all_starts c.args.self.now.region.end) a (one_start i) c.loop-place.place
met c a i follows = meet_read _ _ c.args.table.now c.loop-place.forward_one c.args.self.now a i _ c.loop-place.offset c.nodes-nodes.result c.leaves_row-ahead.result _ c.ends_row-behind.result c.meets.result c.requires.kept (omega (arith, c.loop-place.invariant.order.0, c.requires.from)) c.loop-place-test.true follows
    c.nodes-nodes.ensures.value (c.leaves_row-ahead.ensures ∙ ap leaves_row c.state_at.ensures) c.index.ensures c.ends_row-behind.ensures c.meets.ensures.meets

pub returns-then-not-meets-clause-meets : goal.returns-then-not-meets-clause-meets
returns-then-not-meets-clause-meets c a i low start follows =
    let on = c.loop-place.invariant.meets a i low start follows in
    (on.0, on.1, λ under m. true≢false (sym ((met (goal.at.returns-then-not-meets-clause-meets c).After-meets a i on.0).1 m) ∙ c.if-not-meets.true))

pub loop-place-preserved : goal.loop-place-preserved
unfolding TakesAtLeast IsCounted
loop-place-preserved c =
    let old = c.loop-place.invariant in
    let place = c.loop-place.place in
    let next = c.next-code.ensures in
    let new = coded c.offset_of-offset.result next.codes c.offset_of-offset.ensures in
    record {
      order = omega arith;
      forward_one = forward_one_still c.args.subject.prepared.now c.loop-place.forward_one c.next-code.new.self old.forward_one next.codes.table next.codes.adds.shape;
      shape = search (rules, old.shape, next.codes.adds.shape);
      offset = new.0;
      meets = λ a i low start follows.
          let on = old.meets a i low start follows in (
            follows_next c.args.subject.prepared.now c.args.subject.text.now c.loop-place.forward_one c.next-code.new.self a i place _ c.loop-place.offset c.offset_of-offset.result _ old.forward_one.table.expr (old.forward_one.table.roots _ old.offset.0) old.forward_one.forwards old.forward_one.single next.codes.adds.shape (omega (arith, old.order.0, start)) c.byte-byte.ensures.byte
                (rw (← c.len-length.ensures.is) (eqb-true (place + 1) c.len-length.result, eq-eqb (place + 1) c.len-length.result)) new.1 on.0,
            holds_on _ c.args.from place on.1 ((met (goal.at.loop-place-preserved c).After-meets a i on.0).0 c.if-not-meets.false),
          );
      cost = omega (arith, old.cost, c.meets.ensures.cost, c.byte-byte.ensures.cost, next.cost, c.nodes-nodes.ensures.value, c.requires.kept.region.root.0);
      counts = omega (arith, old.counts, old.order, c.meets.ensures.cost, c.byte-byte.ensures.cost, next.counts);
    }

pub returns-clause-meets : goal.returns-clause-meets
returns-clause-meets c a i low start follows =
    let old = c.loop-place.invariant in
    let at : c.loop-place.place ≡ c.args.self.now.region.to = omega (arith, old.order.1, c.loop-place-test.false) in
    search (rules, at, old.meets a i low start follows)
