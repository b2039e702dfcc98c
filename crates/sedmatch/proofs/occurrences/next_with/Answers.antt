use Rattle.sedmatch.proofs.Words.{None, length, refl, arith, expression_tree, later_answer, searched_then}
use Rattle.sedmatch.proofs.OccurrenceLemmas.{answer_found, behind_paid, both_paid, lies_behind, lies_further, first_paid, first_square}
use Rattle.sedmatch.proofs.occurrences.next_with.Goals as goal

pub returns-in_err-start-clause-next : goal.returns-in_err-start-clause-next
returns-in_err-start-clause-next c =
    let e = expression_tree c.args.prepared.now in
    rw (c.in_default.is, c.from_residual.ensures) (answer_found e c.args.text.now 0 None (omega arith) (tt, c.in_err-start.ensures.narrowed e c.hints.ensures, tt))

pub returns-in_default-clause-next : goal.returns-in_default-clause-next
returns-in_default-clause-next c =
    let e = expression_tree c.args.prepared.now in
    let w = c.args.text.now in
    let place = c.in_ok-start.ensures.narrowed e c.hints.ensures in
    rw c.in_default.is (answer_found e w 0 c.next_match.result (omega arith) (later_answer e w 0 c.in_ok-start.start c.next_match.result place.0 place.2 c.next_match.ensures.answer))

pub returns-in_default-clause-cost : goal.returns-in_default-clause-cost
returns-in_default-clause-cost c = rw c.in_default.is (first_paid _ _ c.in_ok-start.start c.args.seeking.now c.next_match.new.seeking _ _ _ _ c.in_ok-start.ensures.cost c.next_match.ensures.cost)

pub returns-in_default-clause-once : goal.returns-in_default-clause-once
returns-in_default-clause-once c = first_square _ _ c.in_ok-start.start _ _ _ c.requires.ready.forward_one.table.expr.arena.nonempty c.in_ok-start.ensures.cost c.next_match.ensures.each

pub returns-then-not-is_null_at-clause-cost : goal.returns-then-not-is_null_at-clause-cost
returns-then-not-is_null_at-clause-cost c =
    let w = c.args.text.now in
    let at = c.in-Some.at in
    let r = c.next_match-first.result in
    let one = c.next_match-first.ensures in
    let lies = lies_behind (expression_tree c.args.prepared.now) w at r one.answer (c.if-not-is_null_at.ensures.after refl) in
    rw c.in-Some.is (behind_paid _ (length w) at c.args.seeking.now c.next_match-first.new.seeking _ _ r (rw c.in-Some.is at c.requires.last) lies (one.cost.0, omega (arith, one.cost)))

pub returns-clause-cost : goal.returns-clause-cost
returns-clause-cost c =
    let w = c.args.text.now in
    let at = c.in-Some.at in
    let two = c.next_match-2 in
    let both = both_paid _ (length w) at c.args.seeking.now c.next_match-first.new.seeking two.new.seeking _ _ _ _ two.result (c.if-not-is_null_at.ensures.null refl) c.next_match-first.ensures.cost two.ensures.cost in
    rw c.in-Some.is (behind_paid _ (length w) at c.args.seeking.now two.new.seeking _ _ two.result (rw c.in-Some.is at c.requires.last) (lies_further (expression_tree c.args.prepared.now) w at two.result two.ensures.answer) both)

pub returns-clause-searched : goal.returns-clause-searched
returns-clause-searched c = searched_then _ _ _ _ _ _ _ _ _ _ _ c.next_match-first.ensures.searched c.next_match-2.ensures.searched
