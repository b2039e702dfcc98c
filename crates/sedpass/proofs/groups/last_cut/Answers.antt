use Rattle.sedpass.proofs.Words.{rules, mul-le-mul_left, ◌*◌, ◌<◌, ◌↔◌, IsTrue, length, inl, inr, arith, cases_eq, one_start, Seq, Matches-forward, nodes_in, subject_text, CeasesAt, MeetsAt}
use Rattle.sedpass.proofs.DecideLemmas.{cut_fixed, ends_there}
use Rattle.sedpass.proofs.MeetingLemmas.{marked_meets, run_stops, set_early, stops_at_cut}
use Rattle.sedpass.proofs.TurnLemmas.{seq_within, opened}
use Rattle.sedpass.proofs.KeptLemmas.{shown_as, space_then}
use Rattle.sedpass.proofs.OwedLemmas.{owed_free, two_each}
use Rattle.sedpass.proofs.groups.last_cut.Goals.{After-cut, After-marks}
use Rattle.sedpass.proofs.groups.last_cut.Goals as goal

pub returns-then-here-clause-cut : goal.returns-then-here-clause-cut
returns-then-here-clause-cut c = search (rules, opened c.args.subject c.args.here (Seq c.args.a c.args.b) c.requires.stands, Matches-forward)

pub after-requires : goal.after-requires
after-requires c = omega (arith, ((cut_fixed c.args.subject c.args.here c.args.a c.args.b _ c.in-Some.length _ c.requires.stands c.facts-known.ensures.facts c.in-Some.is).0 c.index-left.ensures).0)

pub returns-in-Some-clause-cut : goal.returns-in-Some-clause-cut
returns-in-Some-clause-cut c = rw c.after.ensures ((cut_fixed c.args.subject c.args.here c.args.a c.args.b _ c.in-Some.length _ c.requires.stands c.facts-known.ensures.facts c.in-Some.is).0 c.index-left.ensures).1

pub overflow_sub-result : goal.overflow_sub-result
overflow_sub-result c =
    omega (arith, ((cut_fixed c.args.subject c.args.here c.args.a c.args.b _ c.in-Some-length.length _ c.requires.stands c.facts.ensures.facts c.in-Some-length.is).1 c.index.ensures).0)

pub returns-in-Some-length-clause-cut : goal.returns-in-Some-length-clause-cut
returns-in-Some-length-clause-cut c = ((cut_fixed c.args.subject c.args.here c.args.a c.args.b _ c.in-Some-length.length _ c.requires.stands c.facts.ensures.facts c.in-Some-length.is).1 c.index.ensures).1

pub returns-in-Some-run-clause-cut : goal.returns-in-Some-run-clause-cut
returns-in-Some-run-clause-cut c =
    let at = c.requires in
    let run = rw c.in-Some-run.is at c.facts-known.ensures.run in
    let there = ends_there c.args.subject c.args.tables.now c.args.kept.now c.args.here (Seq c.args.a c.args.b) at in
    run_stops _ _ _ c.args.here.stop c.args.here.node c.args.a c.args.b at.stands.arena at.ends.0 at.stands.is c.in-Some-run.leaf run.1.0 (search (rules, run.0)) run.1.1 c.args.here.start c.seek.result at.stands.there.at
    (search rules) (λ q from to. search (rules, there, c.seek.ensures.passed q)) (λ reaches.
    search (rules, there, c.seek.ensures.found, at.ends.1, set_early _ _ _ c.in-Some-run.leaf c.seek.result (one_start c.args.here.stop) run.1.0 at.stands.arena run.1.1 reaches))

pub returns-in-Some-clause-cost : goal.returns-in-Some-clause-cost
returns-in-Some-clause-cost c = owed_free (length (nodes_in c.args.subject)) c.args.kept.now.region c.args.here.start c.after.result c.args.steps.now (omega (arith, c.after.ensures))

pub returns-in-Some-length-clause-cost : goal.returns-in-Some-length-clause-cost
returns-in-Some-length-clause-cost c =
    let cut = ((cut_fixed c.args.subject c.args.here c.args.a c.args.b _ c.in-Some-length.length _ c.requires.stands c.facts.ensures.facts c.in-Some-length.is).1 c.index.ensures).1 in
    owed_free (length (nodes_in c.args.subject)) c.args.kept.now.region c.args.here.start _ c.args.steps.now (search (rules, Matches-forward, cut.left))

pub returns-in-Some-run-clause-cost : goal.returns-in-Some-run-clause-cost
returns-in-Some-run-clause-cost c = search (rules, c.seek.ensures.cost, two_each (length (nodes_in c.args.subject)) c.args.here.start c.seek.result, c.seek.ensures.order, c.requires.stands.arena.nonempty)

-- the left part is marked exactly where it takes a byte
takes_byte : (c : After-marks) → IsTrue c.marks.result ↔ MeetsAt (nodes_in c.args.subject) (subject_text c.args.subject) c.args.kept.now.region.root (one_start c.args.here.stop) c.args.a.index (one_start c.args.here.start) c.args.here.start
takes_byte c =
    let there = ends_there c.args.subject c.args.tables.now c.args.kept.now c.args.here (Seq c.args.a c.args.b) c.requires in
    let parts = seq_within c.args.subject c.args.here c.args.a c.args.b c.args.kept.now.region.root c.requires.stands c.requires.ends.0 in
    let meets = marked_meets _ (subject_text c.args.subject) _ c.args.a.index c.args.here.start (one_start c.args.here.stop) c.requires.stands.arena parts.0 parts.2 in
    let marked = rw (c.index-left.ensures, there) at c.marks.ensures.marked in
    (λ h. meets.1 (marked.0 h), λ h. marked.1 (meets.0 h))

pub returns-then-not-marks-clause-cut : goal.returns-then-not-marks-clause-cut
returns-then-not-marks-clause-cut c =
    let at = c.requires in
    stops_at_cut _ _ _ c.args.here.stop c.args.here.node c.args.a c.args.b at.stands.arena at.ends.0 at.stands.is c.args.here.start c.args.here.start at.stands.there.at
    (omega arith, λ q low before. absurd (omega arith), λ met. search (rules, (takes_byte (goal.at.returns-then-not-marks-clause-cut c).After-marks).1 met))

-- where the passes cease to meet
ceases : (c : After-cut) → CeasesAt (nodes_in c.args.subject) (subject_text c.args.subject) c.args.kept.now.region.root (one_start c.args.here.stop) c.args.a.index c.args.here.start c.cut.result
ceases c =
    let there = ends_there c.args.subject c.args.tables.now c.args.kept.now c.args.here (Seq c.args.a c.args.b) c.requires in
    rw (c.index-left.ensures, there) at (shown_as (λ r t. CeasesAt (nodes_in c.args.subject) (subject_text c.args.subject) r t c.index-left.result c.args.here.start c.cut.result) _ _ _ _ _ _ c.marks.ensures.keeps c.cut.ensures.ceases)

pub returns-clause-cut : goal.returns-clause-cut
returns-clause-cut c =
    let at = c.requires in
    stops_at_cut _ _ _ c.args.here.stop c.args.here.node c.args.a c.args.b at.stands.arena at.ends.0 at.stands.is c.args.here.start c.cut.result at.stands.there.at (ceases (goal.at.returns-clause-cut c).After-cut)

pub returns-clause-desk : goal.returns-clause-desk
returns-clause-desk c = search (rules, space_then)

pub returns-clause-cost : goal.returns-clause-cost
returns-clause-cost c =
    let stops = ceases (goal.at.returns-clause-cost c).After-cut in
    let met = (takes_byte (goal.at.returns-clause-cost c).After-marks).0 c.if-not-marks.false in
    let more : c.args.here.start < c.cut.result = elim (cases_eq c.args.here.start c.cut.result) [ inl same ↦ absurd ((rw (← same) at stops.2) met) | inr not ↦ omega (arith, stops.0, not) ] in
    search (rules, c.marks.ensures.cost, c.cut.ensures.cost, mul-le-mul_left (36 * length (nodes_in c.args.subject)) more)
