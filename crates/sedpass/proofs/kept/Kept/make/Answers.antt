use Rattle.sedpass.proofs.Words.{ap, arith, length, mul-le-mul_left, refl, rules, ◌*◌, ◌+◌, ◌-◌, ◌/◌, ◌∙◌, ◌≡◌, ◌≢◌, ◌≤◌, ℕ, ◌<◌, mul-sub, Takes, TakesAtLeast, row_of, EdgesFrom, PassesDownTo, SameKept, bits, ends_row, leaves_row}
use Rattle.sedpass.proofs.KeptLemmas.{block_right, edge_room, edges_more, edges_none, edges_same, kept_passed, region_kept, same_kept}
use Rattle.sedpass.proofs.RowLemmas.{copied_rows, keeps_then}
use Rattle.sedpass.proofs.kept.Kept.make.Goals.{After-max-least, then-place-end, else-place-end}
use Rattle.sedpass.proofs.kept.Kept.make.Goals as goal

-- where the place is a block's right end, its row is kept
edge_kept : (c : After-max-least) → PassesDownTo c.args.subject.prepared.now c.args.subject.text.now c.loop-place.table c.if-place-end.self c.loop-place.place c.loop-place.offset
    × EdgesFrom c.args.subject.prepared.now c.args.subject.text.now c.loop-place.table c.if-place-end.self ((c.loop-place.place - 1) / (c.loop-place.table.room - 1) * (c.loop-place.table.room - 1))
    × SameKept c.loop-place.self c.if-place-end.self × Takes c.loop-place.steps c.if-place-end.steps (4 * length c.args.subject.prepared.now.nodes)
edge_kept c =
    let p = c.args.subject.prepared.now in
    let w = c.args.subject.text.now in
    let t = c.loop-place.table in
    let k = c.loop-place.self in
    let old = c.loop-place.invariant in
    let place = c.loop-place.place in
    let width = t.room - 1 in
    let block = (place - 1) / width in
    elim c.if-place-end.branch [
      | then-place-end v ↦
          let m = length p.nodes in
          let some = old.passes.region.table.room.rows.some in
          let one = v.copy.ensures in
          let two = v.copy-then-place-end.ensures in
          let keeps = keeps_then (λ q. q ≢ 2 * block) (λ q. q ≢ 2 * block + 1) (λ q. (q ≢ 2 * block) × (q ≢ 2 * block + 1)) _ _ _ (λ q far. far) one.keeps two.keeps in
          let right = old.right c.loop-place-test.true (omega (arith, v.if-place-end.true)) in
          let at : place ≡ block * width + width = block_right place width right.0 (omega (arith, some)) (omega (arith, c.loop-place-test.true)) right.1 in
          let copied = copied_rows m c.nodes-nodes.result (2 * block) (2 * block + 1) v.copy.new.self v.copy-then-place-end.new.self _ _ c.nodes-nodes.ensures.value (λ e. omega arith) one.same two.keeps two.same in
          let leaves = v.leaves_row.ensures ∙ ap leaves_row v.state_at-state.ensures in
          let ends = v.ends_row.ensures ∙ ap ends_row v.state_at-state.ensures in
          let same : SameKept k (record k { edges = v.copy-then-place-end.new.self }) = search (rules, keeps) in
          rw (v.self-is, v.steps-is) (
            search (rules, region_kept p w t t k _ (search rules) old.passes.region.table same refl old.passes.region.within old.passes.region, old.passes),
            edges_more p w t.way.all_starts k.region.root k.region.end width block k.edges v.copy-then-place-end.new.self _ _ (omega (arith, some)) keeps
                (copied.0 ∙ ap (λ r. bits m (row_of t.rows r)) leaves, copied.1 ∙ ap (λ r. bits m (row_of t.rows r)) ends) (rw (← at) old.passes.at.1) (rw (← at) old.edges),
            same,
            omega (arith, c.nodes-nodes.ensures.value, one.cost, two.cost),
          )
      | else-place-end v ↦ rw (v.self-is, v.steps-is) (old.passes, edges_none p w t k block (omega (arith, v.if-place-end.false, old.end_is)), search rules, omega arith)
    ]

pub pass-offset-requires-clause-passes : goal.pass-offset-requires-clause-passes
pass-offset-requires-clause-passes c = (edge_kept (goal.at.pass-offset-requires-clause-passes c).After-max-least).0

pub loop-place-preserved : goal.loop-place-preserved
unfolding TakesAtLeast
loop-place-preserved c =
    let old = c.loop-place.invariant in
    let edge = edge_kept (goal.at.loop-place-preserved c).After-max-least in
    let now = c.pass-offset.ensures in
    let less : c.max-least.result + 1 ≤ c.loop-place.place = omega arith in
    let edges = edges_same c.args.subject.prepared.now c.args.subject.text.now c.loop-place.table c.pass-offset.new.table c.if-place-end.self c.pass-offset.new.self _ c.max-least.result now.down.shape now.down.edges now.down.same.root now.down.same.end
    (omega arith) edge.1 in
    let right : c.args.low < c.max-least.result → (b : ℕ) × (c.max-least.result ≡ b * (c.pass-offset.new.table.room - 1)) = λ some. ((c.loop-place.place - 1) / (c.loop-place.table.room - 1), rw now.down.shape.1 (omega (arith, some))) in
    let same = same_kept _ _ _ (same_kept _ _ _ old.same edge.2) now.down.same in
    search (rules, old, edge, now, less, right, edges, same, mul-le-mul_left (4 * length c.args.subject.prepared.now.nodes) less)

pub returns-clause-keeps : goal.returns-clause-keeps
returns-clause-keeps c =
    let last = c.loop-place.invariant in
    record {
      kept = kept_passed _ _ c.loop-place.table c.loop-place.self _ c.loop-place.place c.loop-place.offset last.passes (λ b above before. last.edges b (omega arith) before) (omega arith) (omega arith) refl refl refl refl refl;
      shape = search (rules, c.edge_state-offset.ensures.adds.shape, last.shape);
      same = search (rules, c.grow.ensures, last.same);
    }

pub returns-clause-cost : goal.returns-clause-cost
returns-clause-cost c =
    let first = c.edge_state-offset.ensures in
    let last = c.loop-place.invariant in
    let m = length c.args.subject.prepared.now.nodes in
    let at : c.loop-place.place ≡ c.args.low = omega arith in
    omega (arith, first.cost, last.cost, ap (λ v. m * v) at, mul-sub m c.args.self.now.region.end c.args.low, mul-le-mul_left m c.requires.low)

pub copy-requires : goal.copy-requires
copy-requires c =
    let passes = c.loop-place.invariant.passes in
    search (rules, edge_room _ _ c.loop-place.table c.loop-place.self c.loop-place.place passes.region passes.within, passes.there, passes.region.table.room, c.nodes-nodes.ensures.value, c.leaves_row.ensures, c.state_at-state.ensures)

pub copy-requires-then-place-end : goal.copy-requires-then-place-end
copy-requires-then-place-end c =
    let passes = c.loop-place.invariant.passes in
    search (rules, edge_room _ _ c.loop-place.table c.loop-place.self c.loop-place.place passes.region passes.within, passes.there, passes.region.table.room, c.nodes-nodes.ensures.value, c.ends_row.ensures, c.state_at-state.ensures, c.copy.ensures.keeps)
