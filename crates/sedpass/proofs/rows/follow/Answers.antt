use Rattle.sedpass.proofs.Words.{Act, AddsMarks, EndsAfter, IsPart, IsTrue, ◌↔◌, List, Bool, NodeId, Seq, Star, StartsAfter, ap, arith, eq-eqb, inr, length, null_in, refl, row_of, slice_set, sym, true, true≢false, ℕ, ◌<◌, ◌∙◌, ◌≡◌, rules}
use Rattle.sedpass.proofs.ActLemmas.{adds_none, adds_one, none_begins, other_ends, second_begins, seq_ends}
use Rattle.sedpass.proofs.rows.follow.Goals as goal
use Rattle.sedpass.proofs.rows.follow.Goals.{After-look, After-null_at, in_default-via-in-Seq+else-index-y, in_default-via-in_default}

abbrev null : Act → ℕ → Bool
null act = null_in act.prepared.now.nodes act.kind

module _ (c : After-look) where
  part : IsPart c.look.result c.args.y
  part = c.parent-parent.ensures.part c.args.act.way.mirrored c.look.result c.look.ensures.node

  room : (q x : ℕ) → q < 2 → x < length c.args.act.prepared.now.nodes → x < length (row_of c.args.rows.now q)
  room q x first lt = omega (arith, lt, c.requires.wide.2 q (omega (arith, first, c.requires.wide.1)))

  -- the node ends with its part
  ends : (after : List Bool) → after ≡ slice_set (row_of c.args.rows.now 1) c.parent-parent.result true → EndsAfter (null c.args.act) c.look.result c.args.y →
      AddsMarks (row_of c.args.rows.now 1) after (λ n. (n ≡ c.parent-parent.result) × EndsAfter (null c.args.act) c.look.result c.args.y)
  ends after is end = adds_one _ after c.parent-parent.result _ is (room 1 c.parent-parent.result (omega arith) c.parent-parent.ensures.inside) (refl, end) (λ n h. h.0)

module _ (c : After-null_at) where
  at : c.in-Seq.a.index ≡ c.args.y
  at = sym c.index.ensures ∙ c.if-index-y.true

  apart : c.in-Seq.a.index ≡ c.in-Seq.b.index → ⊥
  apart = rw c.in-Seq.is at (c.look.ensures.arena.distinct c.parent-parent.result c.look.result c.look.ensures.node)

  ends_null : EndsAfter (null c.args.act) c.look.result c.args.y ↔ IsTrue c.null_at.result
  ends_null = rw (c.in-Seq.is, c.null_at.ensures.null, c.index-b.ensures) (seq_ends (null c.args.act) c.in-Seq.a c.in-Seq.b c.args.y apart at)

  begins : (after : List Bool) → after ≡ row_of c.set.new.self 0 → AddsMarks (row_of c.args.rows.now 0) after (StartsAfter (null c.args.act) c.look.result c.args.y)
  begins after is =
      rw c.in-Seq.is (second_begins (null c.args.act) c.in-Seq.a c.in-Seq.b c.args.y apart at _ after (is ∙ c.set.ensures.marks ∙ ap (λ x. slice_set (row_of c.args.rows.now 0) x true) c.index-b.ensures)
      (omega (arith, c.look.ensures.arena.below c.parent-parent.result c.in-Seq.b.index c.look.result c.look.ensures.node (rw c.in-Seq.is (inr refl)), c.parent-parent.ensures.inside, c.requires.wide.2 0 (omega (arith, c.requires.wide.1)))))

pub returns-then-null_at-clause-followed : goal.returns-then-null_at-clause-followed
returns-then-null_at-clause-followed c =
    let f = (goal.at.returns-then-null_at-clause-followed c).After-look in
    let n = (goal.at.returns-then-null_at-clause-followed c).After-null_at in
    let is_ended = c.set-then-null_at.ensures.marks ∙ ap (λ l. slice_set l c.parent-parent.result true) (c.set.ensures.keeps.same 1 (λ e. omega (arith, e))) in
    (c.parent-parent.result, c.look.result, c.look.ensures.node, part f, ends f _ is_ended ((ends_null n).1 c.if-null_at.true), begins n _ (c.set-then-null_at.ensures.keeps.same 0 (λ e. omega (arith, e))))

pub returns-else-null_at-clause-followed : goal.returns-else-null_at-clause-followed
returns-else-null_at-clause-followed c =
    let n = (goal.at.returns-else-null_at-clause-followed c).After-null_at in
    let kept : row_of c.set.new.self 1 ≡ row_of c.args.rows.now 1 = c.set.ensures.keeps.same 1 (λ e. omega (arith, e)) in
    (c.parent-parent.result, c.look.result, c.look.ensures.node, part (goal.at.returns-else-null_at-clause-followed c).After-look, rw kept (adds_none _ _ (λ k h. true≢false (sym ((ends_null n).0 h.1) ∙ c.if-null_at.false))), begins n _ refl)

pub returns-in-Star-clause-followed : goal.returns-in-Star-clause-followed
returns-in-Star-clause-followed c =
    let f = (goal.at.returns-in-Star-clause-followed c).After-look in
    let is_ended = c.set-in-Star-2.ensures.marks ∙ ap (λ l. slice_set l c.parent-parent.result true) (c.set-in-Star.ensures.keeps.same 1 (λ e. omega (arith, e))) in
    let is_after = c.set-in-Star-2.ensures.keeps.same 0 (λ e. omega (arith, e)) ∙ c.set-in-Star.ensures.marks in
    let own = rw c.in-Star.is at (part f) in
    let end = ends f _ is_ended (rw c.in-Star.is (eq-eqb c.in-Star.field-0.index c.args.y own)) in
    let begin = adds_one _ _ c.args.y (StartsAfter (null c.args.act) c.look.result c.args.y) is_after (search (rules, room f 0)) (rw c.in-Star.is (own, eq-eqb c.in-Star.field-0.index c.args.y own)) (λ n told. sym (rw c.in-Star.is at told.0) ∙ own) in
    (c.parent-parent.result, c.look.result, c.look.ensures.node, part f, end, begin)

pub returns-in_default-clause-followed : goal.returns-in_default-clause-followed
returns-in_default-clause-followed c =
    let f = (goal.at.returns-in_default-clause-followed c).After-look in
    let not_first : (a b : NodeId) → c.look.result ≡ Seq a b → a.index ≡ c.args.y → ⊥ = λ a b e at. search (rules, c.in_default.branch) in
    let no_star : (a : NodeId) (first : Bool) → c.look.result ≡ Star a first → ⊥ = λ a first e. search (rules, c.in_default.branch) in
    let kept : row_of c.set-in_default.new.self 0 ≡ row_of c.args.rows.now 0 = c.set-in_default.ensures.keeps.same 0 (λ e. omega (arith, e)) in
    let end = other_ends (null c.args.act) c.args.y _ (part f) not_first in
    (c.parent-parent.result, c.look.result, c.look.ensures.node, part f, ends f _ c.set-in_default.ensures.marks end, rw kept (adds_none _ _ (λ n. none_begins (null c.args.act) c.args.y n _ not_first no_star)))
