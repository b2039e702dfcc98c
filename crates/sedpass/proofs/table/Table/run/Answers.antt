use Rattle.sedpass.proofs.Words.{◌+◌, ◌*◌, ◌≤◌, ◌<◌, arith, length, rules, common_steps, TakesAtLeast, IsCounted, not-false, eqb-true, eq-eqb, root_of, PassIs, IsPassEnd, starts_of}
use Rattle.sedpass.proofs.KeptLemmas.{same_shape}
use Rattle.sedpass.proofs.ForwardLemmas.{end_found, end_longest, end_passes, goes_on, names_first, none_before, pass_grows, seen_end}
use Rattle.sedpass.proofs.table.Table.run.Goals as goal

pub loop-here-init : goal.loop-here-init
unfolding TakesAtLeast
loop-here-init c =
    let first = c.first-code.ensures in
    let here = c.arrive-here.ensures in
    let names = names_first c.args.prepared.now c.args.self.now c.first-code.new.self c.args.text.now c.args.at _ _ first.codes.adds.shape.0 c.requires.forwards c.requires.from c.kind_of-kind.ensures.begin
    (rw c.len.ensures.is at c.kind_of-kind.ensures.end) (rw c.root.ensures.value at first.codes.names) in
    let cost : c.first-code.new.steps + 40 * length c.args.prepared.now.nodes * c.args.at ≤ c.args.steps.now + 40 * length c.args.prepared.now.nodes * (c.arrive-here.result.place + 1) = rw here.place (omega (arith, first.cost)) in
    search (rules, first.codes, here, here.passes c.args.at (omega arith) c.requires.from names (none_before c.args.prepared.now c.first-code.new.self.way c.args.text.now c.args.at), first.cost.0, cost, first.counts)

-- the pass is over where filled cells led to
pub loop-here-preserved : goal.loop-here-preserved
unfolding TakesAtLeast
loop-here-preserved c =
    let i = c.loop-here.invariant in
    let at = c.follow-here.ensures in
    search (rules, i, at, at.passes c.args.at i.passes, at.moved (not-false c.follow-here.result.over c.if-not-here.false), pass_grows _ _ _ i.table.expr.arena.nonempty at.after)

-- or it comes to the next place
pub loop-here-preserved-then-not-here : goal.loop-here-preserved-then-not-here
unfolding TakesAtLeast IsCounted
loop-here-preserved-then-not-here c =
    let i = c.loop-here.invariant in
    let up = c.follow-here.ensures in
    let byte = c.byte-byte.ensures in
    let next = c.next-code.ensures in
    let at = c.arrive-here-then-not-here.ensures in
    let inside : c.loop-here.here.place < length c.args.text.now = grind (arith, common_steps) in
    let cost : c.next-code.new.steps + 40 * length c.args.prepared.now.nodes * c.args.at ≤ c.args.steps.now + 40 * length c.args.prepared.now.nodes * (c.arrive-here-then-not-here.result.place + 1) =
    rw at.place (omega (arith, i.cost.1, up.cost.1, byte.cost.0.1, next.cost.1, pass_grows _ _ _ i.table.expr.arena.nonempty up.after)) in
    let passes : PassIs c.args.prepared.now c.next-code.new.self c.args.text.now c.args.at c.arrive-here-then-not-here.result = goes_on _ _ _ _ _ _ _ _ _ _ c.requires.table.expr next.codes.adds.shape.0 (up.passes c.args.at i.passes) byte.byte
    ((λ h. omega (arith, eqb-true _ _ h, c.len-last.ensures.is, inside)), (λ e. eq-eqb _ _ (omega (arith, e, c.len-last.ensures.is)))) next.codes.names (at.passes c.args.at) in
    search (rules, next.codes, same_shape c.args.self.now c.loop-here.self c.next-code.new.self i.shape next.codes.adds.shape, at, passes, cost, i, up, byte, next)

seen : (c : goal.After-loop-here) → IsPassEnd c.args.self.now.way.all_starts c.args.prepared.now.nodes c.args.text.now (root_of c.args.prepared.now) (starts_of c.args.self.now.way.all_starts c.args.at c.args.text.now) c.loop-here.here.end
seen c = seen_end c.args.prepared.now _ _ c.args.text.now _ c.loop-here.here c.loop-here.invariant.shape.0 c.requires.forwards c.requires.from c.loop-here.invariant.passes (grind (arith, common_steps))

pub returns-clause-longest : goal.returns-clause-longest
returns-clause-longest c single = end_longest c.args.prepared.now c.args.text.now c.args.at _ _ single (seen c)

pub returns-clause-found : goal.returns-clause-found
returns-clause-found c all = end_found c.args.prepared.now c.args.text.now c.args.at _ c.requires.from _ all (seen c)

pub returns-clause-passes : goal.returns-clause-passes
returns-clause-passes c = end_passes c.args.prepared.now c.args.text.now c.args.at _ _ _ _ _ _ _ c.requires.from _ c.loop-here.invariant.passes.last (seen c) c.loop-here.invariant.counts

pub loop-here-smaller : goal.loop-here-smaller
loop-here-smaller c =
    omega (arith, c.follow-here.ensures.moved (not-false c.follow-here.result.over c.if-not-here.false), c.follow-here.ensures.within, c.len-last.ensures.is)
