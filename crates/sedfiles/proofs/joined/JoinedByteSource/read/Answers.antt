use Rattle.std.proofs.Common.{◌≡◌, ◌∙◌, ◌<◌, ◌∷◌, Ok, length, refl, ap, ap₂, arith, rules}
use Rattle.sedfiles.proofs.JoinLemmas.{Reads, failed_on, given_on, opened_on, passed_next, passed_none, spent_on, start_kept, waited_on}
use Rattle.sedfiles.proofs.joined.JoinedByteSource.read.Goals as goal

pub loop-count-preserved : goal.loop-count-preserved
loop-count-preserved g c =
    let current = g.I.Inputs.current in
    let ahead = g.I.Inputs.ahead in
    let i = c.loop-count.invariant in
    let r = c.in_ok-count.ensures in
    let none : c.in_ok-count.count ≡ 0 = omega arith in
    let reads : Reads current ahead c.loop-count.self c.read_file.new.self = record { rest = r.rest; kept = r.ahead } in
    let o = c.if-not-open_next.ensures in
    (omega arith, o.failed ∙ r.failed ∙ i.1, o.same_reference ∙ r.same_reference ∙ i.2, o.same_start ∙ start_kept current ahead _ _ reads ∙ i.3, passed_next current ahead _ _ _ _ i.4 reads (rw none at r.bytes.0) (r.ended (ap Ok none)) (o.opened refl))

pub loop-count-init : goal.loop-count-init
loop-count-init g c = (search rules, refl, refl, refl, passed_none g.I.Inputs.current g.I.Inputs.ahead c.args.self.now)

pub returns-in_err-count-clause-bytes : goal.returns-in_err-count-clause-bytes
returns-in_err-count-clause-bytes g c =
    let current = g.I.Inputs.current in
    let ahead = g.I.Inputs.ahead in
    let r = c.in_err-count.ensures in
    let reads : Reads current ahead c.loop-count.self c.read_file.new.self = record { rest = r.rest; kept = r.ahead } in
    failed_on current ahead _ _ _ c.loop-count.invariant.4 reads _ _ c.from_residual.ensures.0 r.bytes

pub returns-in_err-count-clause-opened : goal.returns-in_err-count-clause-opened
returns-in_err-count-clause-opened g c =
    let current = g.I.Inputs.current in
    let ahead = g.I.Inputs.ahead in
    let r = c.in_err-count.ensures in
    let reads : Reads current ahead c.loop-count.self c.read_file.new.self = record { rest = r.rest; kept = r.ahead } in
    opened_on current ahead _ _ _ c.loop-count.invariant.4 reads

pub returns-in_err-count-clause-waits : goal.returns-in_err-count-clause-waits
returns-in_err-count-clause-waits g c =
    let current = g.I.Inputs.current in
    let ahead = g.I.Inputs.ahead in
    let r = c.in_err-count.ensures in
    let reads : Reads current ahead c.loop-count.self c.read_file.new.self = record { rest = r.rest; kept = r.ahead } in
    waited_on current ahead _ _ _ c.loop-count.invariant.4 reads

pub returns-in_err-count-clause-same_reference : goal.returns-in_err-count-clause-same_reference
returns-in_err-count-clause-same_reference g c =
    let current = g.I.Inputs.current in
    let ahead = g.I.Inputs.ahead in
    let r = c.in_err-count.ensures in
    let reads : Reads current ahead c.loop-count.self c.read_file.new.self = record { rest = r.rest; kept = r.ahead } in
    ap₂ (λ a b. a ∷ b) (start_kept current ahead _ _ reads ∙ c.loop-count.invariant.3) (r.same_reference ∙ c.loop-count.invariant.2)

pub returns-then-count-gt0-clause-bytes : goal.returns-then-count-gt0-clause-bytes
returns-then-count-gt0-clause-bytes g c =
    let current = g.I.Inputs.current in
    let ahead = g.I.Inputs.ahead in
    let r = c.in_ok-count.ensures in
    let reads : Reads current ahead c.loop-count.self c.read_file.new.self = record { rest = r.rest; kept = r.ahead } in
    (given_on current ahead _ _ _ c.loop-count.invariant.4 reads _ r.bytes.0, λ none some. absurd (omega arith))

pub returns-then-count-gt0-clause-opened : goal.returns-then-count-gt0-clause-opened
returns-then-count-gt0-clause-opened g c =
    let current = g.I.Inputs.current in
    let ahead = g.I.Inputs.ahead in
    let r = c.in_ok-count.ensures in
    let reads : Reads current ahead c.loop-count.self c.read_file.new.self = record { rest = r.rest; kept = r.ahead } in
    opened_on current ahead _ _ _ c.loop-count.invariant.4 reads

pub returns-then-count-gt0-clause-waits : goal.returns-then-count-gt0-clause-waits
returns-then-count-gt0-clause-waits g c =
    let current = g.I.Inputs.current in
    let ahead = g.I.Inputs.ahead in
    let r = c.in_ok-count.ensures in
    let reads : Reads current ahead c.loop-count.self c.read_file.new.self = record { rest = r.rest; kept = r.ahead } in
    waited_on current ahead _ _ _ c.loop-count.invariant.4 reads

pub returns-then-count-gt0-clause-same_reference : goal.returns-then-count-gt0-clause-same_reference
returns-then-count-gt0-clause-same_reference g c =
    let current = g.I.Inputs.current in
    let ahead = g.I.Inputs.ahead in
    let r = c.in_ok-count.ensures in
    let reads : Reads current ahead c.loop-count.self c.read_file.new.self = record { rest = r.rest; kept = r.ahead } in
    ap₂ (λ a b. a ∷ b) (start_kept current ahead _ _ reads ∙ c.loop-count.invariant.3) (r.same_reference ∙ c.loop-count.invariant.2)

pub returns-then-not-open_next-clause-bytes : goal.returns-then-not-open_next-clause-bytes
returns-then-not-open_next-clause-bytes g c =
    let current = g.I.Inputs.current in
    let ahead = g.I.Inputs.ahead in
    let r = c.in_ok-count.ensures in
    let reads : Reads current ahead c.loop-count.self c.read_file.new.self = record { rest = r.rest; kept = r.ahead } in
    let none : c.in_ok-count.count ≡ 0 = omega arith in
    let some : 0 < length c.read_file.new.buf = omega arith in
    let same = c.if-not-open_next.ensures.none refl in
    let spent = spent_on current ahead _ _ _ c.loop-count.invariant.4 reads (rw none at r.bytes.0) (r.bytes.1 none some) same.1 g.met.I.Inputs.none_ahead in
    rw same.0 (spent.0, λ _ _. spent.1)

pub returns-then-not-open_next-clause-opened : goal.returns-then-not-open_next-clause-opened
returns-then-not-open_next-clause-opened g c =
    let current = g.I.Inputs.current in
    let ahead = g.I.Inputs.ahead in
    let r = c.in_ok-count.ensures in
    let reads : Reads current ahead c.loop-count.self c.read_file.new.self = record { rest = r.rest; kept = r.ahead } in
    rw (c.if-not-open_next.ensures.none refl).0 (opened_on current ahead _ _ _ c.loop-count.invariant.4 reads)

pub returns-then-not-open_next-clause-waits : goal.returns-then-not-open_next-clause-waits
returns-then-not-open_next-clause-waits g c =
    let current = g.I.Inputs.current in
    let ahead = g.I.Inputs.ahead in
    let r = c.in_ok-count.ensures in
    let reads : Reads current ahead c.loop-count.self c.read_file.new.self = record { rest = r.rest; kept = r.ahead } in
    rw (c.if-not-open_next.ensures.none refl).0 (waited_on current ahead _ _ _ c.loop-count.invariant.4 reads)

pub returns-then-not-open_next-clause-same_reference : goal.returns-then-not-open_next-clause-same_reference
returns-then-not-open_next-clause-same_reference g c =
    let current = g.I.Inputs.current in
    let ahead = g.I.Inputs.ahead in
    let r = c.in_ok-count.ensures in
    let reads : Reads current ahead c.loop-count.self c.read_file.new.self = record { rest = r.rest; kept = r.ahead } in
    let o = c.if-not-open_next.ensures in
    ap₂ (λ a b. a ∷ b) (o.same_start ∙ start_kept current ahead _ _ reads ∙ c.loop-count.invariant.3) (o.same_reference ∙ r.same_reference ∙ c.loop-count.invariant.2)
