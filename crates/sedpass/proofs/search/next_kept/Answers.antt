use Rattle.sedpass.proofs.Words.{ap, arith, false, length, mul-le-mul_left, refl, rules, sym, ◌*◌, ◌+◌, ◌-◌, ◌∙◌, ◌≡◌, ◌≤◌, TakesAtLeast, HasSpan, both_ways, AllMarked, CeasesAt, ReachesEnd, owed_kept, root_of}
use Rattle.sedpass.proofs.KeptLemmas.{keeps_then}
use Rattle.sedpass.proofs.SearchLemmas.{begins_some, kept_cost, kept_each, longest_kept, none_kept, none_marked, shown_whole}
use Rattle.sedpass.proofs.search.next_kept.Goals.{After-cut-end, else-start-len-via-then-start-len+else-not-is_null, else-start-len-via-else-start-len}
use Rattle.sedpass.proofs.search.next_kept.Goals as goal

pub returns-then-not-is_null : goal.returns-then-not-is_null
returns-then-not-is_null c =
    let p = c.args.subject.prepared.now in
    let w = c.args.subject.text.now in
    let region = c.requires.kept.region in
    let seek = rw c.root-root.ensures.value at c.seek-start.ensures in
    let null = rw c.root-root.ensures.value at c.is_null.ensures in
    let passed = shown_whole (λ r t. AllMarked p.nodes w r t (root_of p) false c.args.from c.seek-start.result) p w c.args.reverse_any.now c.args.kept.now c.requires.kept c.requires.all_starts seek.passed in
    let none = none_kept p w region.table.expr.arena c.args.from c.seek-start.result (c.if-start-len.true ∙ c.len.ensures.is) passed (λ span. both_ways _ c.if-not-is_null.true (null.null.1 span)) in
    let cost : c.is_null.new.steps + 0 ≤ c.args.steps.now + (owed_kept (length p.nodes) (length w) c.args.kept.now.region c.args.from + 42 * length p.nodes) =
    omega (arith, mul-le-mul_left (length w - c.args.from) region.table.expr.arena.nonempty, seek.order, region.inside, seek.cost.1, null.cost.0.1) in
    let grows : c.args.steps.now ≤ c.is_null.new.steps = omega (arith, seek.cost.0, null.cost.0.0) in
    search (rules, c.requires.forward_one, seek.keeps, none, grows, cost, kept_each _ _ c.args.kept.now.region c.args.from c.args.steps.now c.is_null.new.steps _ region.inside cost)

-- at the text's end it is null there
null_there : (c : After-cut-end) → (c.seek-start.result ≡ length c.args.subject.text.now → HasSpan c.args.subject.prepared.now.nodes c.args.subject.text.now (root_of c.args.subject.prepared.now) c.seek-start.result c.seek-start.result)
    × (c.seek-start.new.steps ≤ c.else-start-len.steps) × (c.else-start-len.steps ≤ c.seek-start.new.steps + 1)
null_there c = elim c.else-start-len.branch [
  | else-start-len-via-then-start-len+else-not-is_null w ↦ rw (w.steps-is, ← c.root-root.ensures.value) (λ at. w.is_null.ensures.null.0 w.if-not-is_null.false, w.is_null.ensures.cost.0.0, w.is_null.ensures.cost.0.1)
  | else-start-len-via-else-start-len w ↦ rw w.steps-is (λ at. absurd (w.if-start-len.false (at ∙ sym c.len.ensures.is)), omega arith, omega arith)
]

pub returns : goal.returns
unfolding TakesAtLeast
returns c =
    let p = c.args.subject.prepared.now in
    let w = c.args.subject.text.now in
    let k = c.args.kept.now in
    let kept = c.requires.kept in
    let seek = rw c.root-root.ensures.value at c.seek-start.ensures in
    let null = null_there (goal.at.returns c).After-cut-end in
    let cut = rw c.root-root.ensures.value at c.cut-end.ensures in
    let start = c.seek-start.result in
    let stop = c.cut-end.result in
    let low : start ≤ length w = omega (arith, seek.order.1, kept.region.inside) in
    let high : stop ≤ length w = omega (arith, cut.within, seek.keeps.same.end, kept.region.inside) in
    let arena = kept.region.table.expr.arena in
    let all = c.requires.all_starts in
    let passed = shown_whole (λ r t. AllMarked p.nodes w r t (root_of p) false c.args.from start) p w c.args.reverse_any.now k kept all seek.passed in
    let begins = begins_some p w arena start low
    (λ lt. shown_whole (λ r t. ReachesEnd p.nodes w r t (root_of p) start) p w c.args.reverse_any.now k kept all ((seek.found (omega (arith, lt, kept.region.whole all))).0 refl)) null.0 in
    let ceases = shown_whole (λ r t. CeasesAt p.nodes w r t (root_of p) start stop) p w c.seek-start.new.table c.seek-start.new.self seek.keeps.kept (ap (λ v. v.all_starts) seek.keeps.shape.0 ∙ all) cut.ceases in
    let longest = longest_kept p w arena start stop begins.0 low begins.1 ceases in
    let keeps = keeps_then _ _ _ _ _ _ _ _ seek.keeps cut.keeps in
    let grows : c.args.steps.now ≤ c.cut-end.new.steps = omega (arith, seek.cost.0, null.1, cut.cost.0) in
    let cost = kept_cost (length p.nodes) (length w) c.args.from start stop c.args.steps.now c.seek-start.new.steps c.else-start-len.steps c.cut-end.new.steps _ _ _ arena.nonempty seek.order.0 cut.ceases.0 high (omega (arith, seek.cost.1)) null.2 cut.cost.1 in
    record {
      tables = record { forward_one = cut.forward_one; forward_one_shape = cut.shape; reverse_any_shape = keeps.shape; space = keeps.same.space };
      next = record {
        kept = cut.keeps.kept;
        answer = (record { after = seek.order.0; spans = longest.0; longest = longest.1; leftmost = none_marked p w arena c.args.from start low passed }, tt, (cut.ceases.0, high));
        counts = omega (arith, seek.counts, null.1, cut.counts, cut.ceases.0);
      };
      cost = (grows, cost);
      each = (grows, kept_each _ _ k.region c.args.from c.args.steps.now c.cut-end.new.steps _ kept.region.inside cost);
    }
