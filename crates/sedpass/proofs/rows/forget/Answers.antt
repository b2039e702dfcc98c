use Rattle.sedpass.proofs.Words.{true≢false, sym, ◌∙◌, ◌<◌, ℕ, has_mark, length, ◌≡◌, arith, false, nodes_of, row_of, seen-arena, seen-length}
use Rattle.sedpass.proofs.ActLemmas.{enters_none, leaves_end}
use Rattle.sedpass.proofs.FactLemmas.{inside_seen}
use Rattle.sedpass.proofs.rows.forget.Goals as goal

pub returns-clause-entered : goal.returns-clause-entered
returns-clause-entered c =
    let act = c.args.act in
    let e = act.prepared.now in
    let kept : row_of c.clear-2.new.self 1 ≡ row_of c.clear.new.self 1 = c.clear-2.ensures.keeps.same 1 (λ n. omega (arith, n)) in
    enters_none _ _ _ _ _ _ (seen-arena act.way.mirrored e c.nodes-nodes.ensures.expr.arena) (λ n lt. c.clear-2.ensures.clear n (omega (arith, lt, seen-length act.way.mirrored e)))
    (inside_seen act.way.mirrored e act.root c.requires.root) (λ n there low. rw kept (c.clear.ensures.clear n (omega (arith, low, c.requires.root))))

pub returns-clause-ended : goal.returns-clause-ended
returns-clause-ended c =
    let clear : (n : ℕ) → n < length (nodes_of c.args.act.way c.args.act.prepared.now) → has_mark (row_of c.clear-2.new.self 1) n ≡ false = λ n lt.
    rw (c.clear-2.ensures.keeps.same 1 (λ n. omega (arith, n))) (c.clear.ensures.clear n (omega (arith, lt, seen-length c.args.act.way.mirrored c.args.act.prepared.now, c.nodes-nodes.ensures.value))) in
    leaves_end _ _ _ _ _ _ (λ n lt h. absurd (true≢false (sym h ∙ clear n lt))) clear (λ n there low. clear n (omega (arith, low, inside_seen c.args.act.way.mirrored c.args.act.prepared.now c.args.act.root c.requires.root)))
