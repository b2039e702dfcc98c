use Rattle.std.proofs.Common.{◌+◌, List, ℕ, take, drop, subst, ap, ◌∙◌}
use Rattle.sedspace.specs.Spaces.{SpaceView}
use Rattle.sedspace.specs.Stream.{AreWholeLines}
use Rattle.sedacts.proofs.DecidingGroups.{le_more}
use Rattle.sedengine.proofs.Passes.{add_less, breaks_off_seen, brought_is, done_taken, fits_within, less_seen, less_within, line_inside, no_longer, start_low, whole_through}
use Rattle.sedacts.proofs.BlockLemmas.{start_before, whole_first}
use Rattle.sedacts.specs.Run.{RunState}
use Rattle.sedengine.specs.declared.next_step.NextStep.TheVariants as p
use Rattle.sedengine.proofs.Tasks.{placed}
use Rattle.sedengine.proofs.machine.Machine.break_off.Goals as goal

pub overflow_add-end : goal.overflow_add-end
overflow_add-end g c =
    let there = line_inside c.ahead-ahead.result.now c.args.lines.now.ahead c.whole_lines-start.result c.args.done c.args.bytes c.line_length.result c.ahead-ahead.ensures.value c.whole_lines-start.ensures.within c.requires.done c.requires.within c.requires.whole c.line_length.ensures.clear c.line_length.ensures.ends in
    (fits_within _ _ there.0 c.ranges.bytes).0

pub overflow_add-end-2 : goal.overflow_add-end-2
overflow_add-end-2 g c =
    let there = line_inside c.ahead-ahead.result.now c.args.lines.now.ahead c.whole_lines-start.result c.args.done c.args.bytes c.line_length.result c.ahead-ahead.ensures.value c.whole_lines-start.ensures.within c.requires.done c.requires.within c.requires.whole c.line_length.ensures.clear c.line_length.ensures.ends in
    (fits_within _ _ there.0 c.ranges.bytes).1

pub unreachable-requires : goal.unreachable-requires
unreachable-requires g c =
    let there = line_inside c.ahead-ahead.result.now c.args.lines.now.ahead c.whole_lines-start.result c.args.done c.args.bytes c.line_length.result c.ahead-ahead.ensures.value c.whole_lines-start.ensures.within c.requires.done c.requires.within c.requires.whole c.line_length.ensures.clear c.line_length.ensures.ends in
    no_longer c.ahead-ahead.result.now c.whole_lines-start.result c.line_length.result c.args.bytes _ _ there.0 c.requires.short (c.self.invariant.pattern_limit ∙ ap (λ (e : RunState). e.limits.space) c.self.view_is) c.in-Err.ensures.full

pub take_lines-requires : goal.take_lines-requires
take_lines-requires g c =
    let ahead = c.ahead-ahead.result.now in
    let same = c.ahead-ahead.ensures.value in
    let there = line_inside c.ahead-ahead.result.now c.args.lines.now.ahead c.whole_lines-start.result c.args.done c.args.bytes c.line_length.result c.ahead-ahead.ensures.value c.whole_lines-start.ensures.within c.requires.done c.requires.within c.requires.whole c.line_length.ensures.clear c.line_length.ensures.ends in
    record {
      within = less_within _ there.0 c.requires.within;
      whole = subst (λ (w : List ℕ). AreWholeLines (take (c.whole_lines-start.result + c.line_length.result + 1) w)) same (whole_through ahead c.whole_lines-start.result c.line_length.result (less_seen ahead _ _ c.args.bytes same there.0 c.requires.within) there.1);
    }

pub returns : goal.returns
returns g c =
    let ahead = c.ahead-ahead.result.now in
    let same = c.ahead-ahead.ensures.value in
    let first = c.whole_lines-start.result in
    let n = c.line_length.result in
    let start = start_before ahead first c.args.done c.whole_lines-start.ensures.within in
    let size = add_less first n in
    let line = ap (λ (s : SpaceView). s.bytes) c.in-Ok.ensures.ok ∙ ap (λ k. take k (drop first ahead)) size in
    breaks_off_seen c.args.lines.now c.take_lines.new.self c.args.self.now _ ahead first n c.args.done c.args.bytes same start c.requires.done c.requires.within c.requires.whole
    (whole_first ahead first c.args.done c.whole_lines-start.ensures.within c.whole_lines-start.ensures.whole) c.whole_lines-start.ensures.rest c.line_length.ensures.clear c.line_length.ensures.ends c.take_lines.ensures.taken
    (brought_is c.self.inside c.args.self.now c.set.new.self c.len.result (take n (drop first ahead)) c.self.view_is line c.len.ensures)

pub invariant_of-self : goal.invariant_of-self
invariant_of-self g c =
    let w = c.in-Ok.ensures in
    let i = c.self.invariant in
    placed c.self.inside c.set.new.self (p.Do c.len.result) i (ap (λ (s : SpaceView). s.limit) w.ok) (rw w.ok (rw i.pattern_limit at w.fits)) tt

pub slice_bounds-whole_lines-end : goal.slice_bounds-whole_lines-end
slice_bounds-whole_lines-end g c = done_taken c.ahead-ahead.result.now c.args.lines.now.ahead c.args.done c.args.bytes c.ahead-ahead.ensures.value c.requires.done c.requires.within

pub slice_bounds-line_length-count : goal.slice_bounds-line_length-count
slice_bounds-line_length-count g c = start_low c.ahead-ahead.result.now c.whole_lines-start.result c.args.done c.args.bytes c.whole_lines-start.ensures.within c.requires.done

pub slice_bounds-set-count : goal.slice_bounds-set-count
slice_bounds-set-count g c = le_more _
