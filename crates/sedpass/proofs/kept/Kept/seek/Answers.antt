use Rattle.sedpass.proofs.Words.{arith, length, rules, not, ◌≡◌, TakesAtLeast, AllMarked, ends_shown}
use Rattle.sedpass.proofs.KeptLemmas.{holds_then, keeps_then, shown_as}
use Rattle.sedpass.proofs.OwedLemmas.{owed_falls}
use Rattle.sedpass.proofs.kept.Kept.seek.Goals.{After-seek_in-found}
use Rattle.sedpass.proofs.kept.Kept.seek.Goals as goal

-- no place is marked as asked up to the one found
passed : (c : After-seek_in-found) → AllMarked c.args.subject.prepared.now.nodes c.args.subject.text.now c.args.self.now.region.root
    (ends_shown c.args.table.now.way.all_starts c.args.self.now.region.end) c.args.x (not c.args.marked) c.args.from c.seek_in-found.result
passed c = holds_then _ c.args.from c.loop-place.place c.seek_in-found.result c.loop-place.invariant.passed
    (shown_as (λ r t. AllMarked c.args.subject.prepared.now.nodes c.args.subject.text.now r t c.args.x (not c.args.marked) c.loop-place.place c.seek_in-found.result) _ _ _ _ _ _
    (keeps_then _ _ _ _ _ _ _ _ c.loop-place.invariant.keeps c.ready-to.ensures.keeps) c.seek_in-found.ensures.passed)

pub loop-place-preserved : goal.loop-place-preserved
unfolding TakesAtLeast
loop-place-preserved c =
    let old = c.loop-place.invariant in
    let ready = c.ready-to.ensures in
    let seek = c.seek_in-found.ensures in
    let here = (goal.at.loop-place-preserved c).After-seek_in-found in
    let at : c.seek_in-found.result ≡ c.ready-to.result = omega (arith, seek.order.1, c.if-found-to.false, ready.to.0) in
    search (rules, old, ready, seek, at, keeps_then, passed here, owed_falls (length c.args.subject.prepared.now.nodes) c.ready-to.new.self.region c.loop-place.place c.ready-to.result (omega (arith, ready.to.1)), ready.cost, seek.counts)

pub returns-then-found-to-clause-passed : goal.returns-then-found-to-clause-passed
returns-then-found-to-clause-passed c = passed (goal.at.returns-then-found-to-clause-passed c).After-seek_in-found
