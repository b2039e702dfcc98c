use Rattle.sedtext.proofs.Closing.{◌+◌, ◌-◌, ◌*◌, ◌/◌, ◌^◌, ◌≡◌, arith, first_marked, later_marks, length, none_marked, passes_within, PassesSieve}
use Rattle.sedtext.proofs.Words.{MarksPlaces}
use Rattle.sedtext.proofs.counted.sieve.Sieve.find.Goals.{After-marks}
use Rattle.sedtext.proofs.counted.sieve.Sieve.find.Goals as goal

pub returns-then-marks-ne0 : goal.returns-then-marks-ne0
returns-then-marks-ne0 c =
    let first = first_marked (PassesSieve c.args.self.now c.args.bytes.now) _ c.loop-place.place _ c.loop-place.invariant.0 c.marks-marks.ensures c.loop-place.invariant.2 c.if-marks-ne0.true in
    record { first = first; inside = omega (arith, passes_within c.args.self.now c.args.bytes.now _ first.1) }

pub loop-place-preserved : goal.loop-place-preserved
loop-place-preserved c =
    let none = none_marked (PassesSieve c.args.self.now c.args.bytes.now) _ c.loop-place.place _ c.loop-place.invariant.0 c.marks-marks.ensures c.loop-place.invariant.2 (omega (arith, c.if-marks-ne0.false)) in
    (omega (arith, c.loop-place.invariant.0), omega arith, none)

pub returns-then-place-last-clause-first : goal.returns-then-place-last-clause-first
returns-then-place-last-clause-first c i low is = c.loop-place.invariant.2 i low (omega (arith, passes_within c.args.self.now c.args.bytes.now i is)) is

-- the marks from the place on, of those of the last vector
later : (c : After-marks) → let s = c.loop-place.place - (length c.args.bytes.now - c.max-reach.result - 32) in MarksPlaces (PassesSieve c.args.self.now c.args.bytes.now) c.loop-place.place (c.marks.result / 2 ^ s)
later c =
    let last = length c.args.bytes.now - c.max-reach.result - 32 in
    let s = c.loop-place.place - last in
    let at : last + s ≡ c.loop-place.place = omega arith in
    rw at at (later_marks (PassesSieve c.args.self.now c.args.bytes.now) last s c.marks.result (omega arith) c.marks.ensures (λ i is. omega (arith, passes_within c.args.self.now c.args.bytes.now i is)))

pub returns-then-marks-eq0-clause-first : goal.returns-then-marks-eq0-clause-first
returns-then-marks-eq0-clause-first c i low is =
    none_marked (PassesSieve c.args.self.now c.args.bytes.now) _ c.loop-place.place _ c.loop-place.invariant.0 (later (goal.at.returns-then-marks-eq0-clause-first c).After-marks) c.loop-place.invariant.2 c.if-marks-eq0.true i low
    (omega (arith, passes_within c.args.self.now c.args.bytes.now i is)) is

pub returns-clause-first : goal.returns-clause-first
returns-clause-first c = first_marked (PassesSieve c.args.self.now c.args.bytes.now) _ c.loop-place.place _ c.loop-place.invariant.0 (later (goal.at.returns-clause-first c).After-marks) c.loop-place.invariant.2 (omega (arith, c.if-marks-eq0.false))

pub returns-clause-inside : goal.returns-clause-inside
returns-clause-inside c =
    let first = first_marked (PassesSieve c.args.self.now c.args.bytes.now) _ c.loop-place.place _ c.loop-place.invariant.0 (later (goal.at.returns-clause-inside c).After-marks) c.loop-place.invariant.2 (omega (arith, c.if-marks-eq0.false)) in
    omega (arith, passes_within c.args.self.now c.args.bytes.now _ first.1)
