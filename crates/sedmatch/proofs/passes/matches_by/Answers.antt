use Rattle.sedmatch.proofs.Words.{ℕ, ◌+◌, ◌-◌, ◌*◌, ◌≤◌, ◌↔◌, List, length, Bool, Some, IsTrue, arith, mul-le-mul_left, cases_lt, WrittenExpression, expression_tree, Takes, TakesAtLeast, CostsWithin, LooksPast, SomeFound, Narrowed, AnswersMatch, passes_later, refl, space_same}
use Rattle.sedmatch.proofs.RoomLemmas.{desk_still, unused, used_so}
use Rattle.sedmatch.proofs.passes.matches_by.Goals as goal

-- where none begins before a place, one begins from there on if one does from an earlier place on
shown_past : (e : WrittenExpression) (w : List ℕ) (from start s t u : ℕ) (answered : Bool) → 1 ≤ length e.nodes → Narrowed (expression_tree e) w from (Some start) → CostsWithin s t (length w) from →
    TakesAtLeast s t (start - from) → (IsTrue answered ↔ SomeFound (expression_tree e) w start) → (IsTrue answered → LooksPast (expression_tree e) w start t u) → Takes t u (43 * length e.nodes * (length w + 1)) →
    AnswersMatch e w from s u answered
shown_past e w from start s t u answered some is looks counts shows over cost = grind (arith, mul-le-mul_left, cases_lt, passes_later)

pub returns-in-Some-own-clause-answered : goal.returns-in-Some-own-clause-answered
returns-in-Some-own-clause-answered c =
    let done = rw c.of.ensures.is at c.matches_with.ensures in
    shown_past c.args.expr.now _ _ c.in-Some.start _ _ _ _ c.of.ensures.expr.arena.nonempty (c.in-Some.ensures.narrowed _ (rw c.of.ensures.is at c.hints.ensures)) c.in-Some.ensures.cost c.in-Some.ensures.counts done.matches done.passes done.cost

pub returns-clause-answered : goal.returns-clause-answered
returns-clause-answered c =
    let done = rw c.of.ensures.is at c.matches_with-2.ensures in
    shown_past c.args.expr.now _ _ c.in-Some.start _ _ _ _ c.of.ensures.expr.arena.nonempty (c.in-Some.ensures.narrowed _ (rw c.of.ensures.is at c.hints.ensures)) c.in-Some.ensures.cost c.in-Some.ensures.counts done.matches done.passes done.cost

pub returns-clause-desk : goal.returns-clause-desk
returns-clause-desk c =
    let d = c.args.desk.now in
    let p = c.args.expr.now in
    let fit = c.fit.ensures.room in
    let fitted = c.fit.new.self in
    let new = c.matches_with-2.new.tables in
    let room = c.matches_with-2.ensures.room in
    let tables = rw c.of.ensures.is at c.matches_with-2.ensures.tables in
    desk_still p d (record d { shared = new }) c.requires.desk.0 refl refl (space_same d.room.kept) c.requires.desk.0.space.none (omega arith) (unused p d.reverse_any)
    (used_so p d.shared.forward_any fitted.forward_any new.forward_any fit.forward_any room.forward_any tables.forward_any) (used_so p d.shared.reverse_one fitted.reverse_one new.reverse_one fit.reverse_one room.reverse_one tables.reverse_one)
    (used_so p d.shared.forward_one fitted.forward_one new.forward_one fit.forward_one room.forward_one tables.forward_one) (used_so p d.shared.forward_part fitted.forward_part new.forward_part fit.forward_part room.forward_part tables.forward_part)
