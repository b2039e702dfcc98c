use Rattle.sedpass.proofs.Words.{arith, length, mul-le-mul_left, ◌+◌, ◌-◌, ◌≡◌, mul-sub, IsCounted, TakesAtLeast, eq-eqb, eqb-true}
use Rattle.sedpass.proofs.KeptLemmas.{coded, comes_down}
use Rattle.sedpass.proofs.kept.Kept.pass.Goals as goal

pub returns-clause-down : goal.returns-clause-down
returns-clause-down c =
    let at : c.loop-place.place ≡ c.args.low = omega (arith, c.loop-place.invariant.order.0, c.loop-place-test.false) in
    rw (← at) c.loop-place.invariant.down

pub loop-place-preserved : goal.loop-place-preserved
unfolding TakesAtLeast IsCounted
loop-place-preserved c =
    let place = c.loop-place.place - 1 in
    let old = c.loop-place.invariant in
    let codes = c.next-code.ensures.codes in
    let down = comes_down _ _ c.args.table.now c.loop-place.table _ c.args.self.now c.loop-place.self c.loop-place.place place _ _ _ _ c.loop-place.self.region.to _ (omega arith) old.down codes c.offset_of-offset.ensures
    (omega (arith, old.down.passes.above)) old.down.passes.region.within (λ q after under. (c.if-table-epoch.false, under)) c.byte-byte.ensures.byte (eqb-true place 0, eq-eqb place 0) in
    record {
      order = omega arith;
      down = rw c.state_at.ensures down;
      to = λ h. omega (arith, old.down.passes.above);
      steady = λ h. (let s = old.steady h in (s.0, omega (arith, s.1, codes.adds.grows c.if-table-epoch.false)));
      cost = omega (arith, old.cost, c.next-code.ensures.cost, c.byte-byte.ensures.cost, mul-sub, mul-le-mul_left (length c.args.subject.prepared.now.nodes) c.loop-place-test.true, old.down.passes.region.root.0);
      counts = omega (arith, old.counts, c.byte-byte.ensures.cost, c.next-code.ensures.counts);
    }

pub loop-place-preserved-then-table-epoch : goal.loop-place-preserved-then-table-epoch
unfolding TakesAtLeast IsCounted
loop-place-preserved-then-table-epoch c =
    let place = c.loop-place.place - 1 in
    let old = c.loop-place.invariant in
    let codes = c.next-code.ensures.codes in
    let down = comes_down _ _ c.args.table.now c.loop-place.table _ c.args.self.now c.loop-place.self c.loop-place.place place _ _ _ _ (place + 1) _ (omega arith) old.down codes c.offset_of-offset.ensures
    (omega arith) (omega (arith, old.down.passes.within)) (λ q after under. absurd (omega arith)) c.byte-byte.ensures.byte (eqb-true place 0, eq-eqb place 0) in
    record {
      order = omega arith;
      down = rw c.state_at.ensures down;
      to = omega arith;
      steady = λ h. (let s = old.steady h in absurd (c.if-table-epoch.true (codes.adds.full (omega (arith, s.1, old.down.shape.1)))));
      cost = omega (arith, old.cost, c.next-code.ensures.cost, c.byte-byte.ensures.cost, mul-sub, mul-le-mul_left (length c.args.subject.prepared.now.nodes) c.loop-place-test.true, old.down.passes.region.root.0);
      counts = omega (arith, old.counts, c.byte-byte.ensures.cost, c.next-code.ensures.counts);
    }

pub overflow_cast-state_at : goal.overflow_cast-state_at
overflow_cast-state_at c = omega (arith, c.state_at.ensures, (coded c.offset_of-offset.result c.next-code.ensures.codes c.offset_of-offset.ensures).0.0, c.next-code.ensures.codes.table.room)
