use Rattle.sedpass.proofs.Words.{InTree, ◌<◌, ℕ, arith, IsCounted, TakesAtLeast, false, is_tree, has_mark, nodes_of, refl, row_of, seen-arena, seen-length, ◌≡◌, rules}
use Rattle.sedpass.proofs.ActLemmas.{end_last, enters_none, follow_step, leaves_end, up_step}
use Rattle.sedpass.proofs.FactLemmas.{inside_seen}
use Rattle.sedpass.proofs.RowLemmas.{keeps_then, still_wide}
use Rattle.sedpass.proofs.rows.ascend.Goals as goal

pub next_set-y-requires-clause-order : goal.next_set-y-requires-clause-order
next_set-y-requires-clause-order c = let r = c.args.act.root in ((c.low-low.ensures.range c.args.act.way.mirrored r).1 (is_tree r refl)).0

pub loop-y-init : goal.loop-y-init
unfolding TakesAtLeast IsCounted
loop-y-init c =
    let act = c.args.act in
    let e = act.prepared.now in
    let r = act.root in
    let new = c.clear.new.self in
    let kept : row_of new 1 ≡ row_of c.args.rows.now 1 = c.clear.ensures.keeps.same 1 (λ n. omega (arith, n)) in
    let none : (n : ℕ) → InTree (nodes_of act.way e) r n → n < c.next_set-y.result → has_mark (row_of new 1) n ≡ false = λ n there under. c.next_set-y.ensures.clear n ((c.low-low.ensures.range act.way.mirrored n).1 there).0 under in
    search (rules, still_wide, leaves_end, enters_none, seen-arena act.way.mirrored e c.nodes.ensures.expr.arena, seen-length act.way.mirrored e)

pub loop-y-preserved : goal.loop-y-preserved
unfolding TakesAtLeast IsCounted
loop-y-preserved c =
    let act = c.args.act in
    let e = act.prepared.now in
    let arena = seen-arena act.way.mirrored e c.nodes.ensures.expr.arena in
    let old = c.loop-y.invariant in
    let here = old.set c.loop-y-test.true in
    let inner = old.ended.inside c.loop-y.y (inside_seen act.way.mirrored e c.loop-y.y (omega (arith, c.loop-y-test.true, c.requires.root))) here in
    search (rules, still_wide, keeps_then, up_step, follow_step)

pub returns-clause-entered : goal.returns-clause-entered
returns-clause-entered c =
    let at : c.loop-y.y ≡ c.args.act.root = omega (arith, c.loop-y.invariant.order, c.loop-y-test.false) in
    end_last _ _ _ _ _ _ _ (seen-arena c.args.act.way.mirrored c.args.act.prepared.now c.nodes.ensures.expr.arena) (rw at at c.loop-y.invariant.entered)
