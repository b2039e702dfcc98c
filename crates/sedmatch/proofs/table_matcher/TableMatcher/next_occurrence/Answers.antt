use Rattle.sedmatch.proofs.Words.{ServesOn, ◌≡◌, ℕ, ◌+◌, ◌-◌, ◌*◌, ◌≤◌, Option, Some, None, IfSome, IsTrue, arith, mul-add, rules, mul-le-mul_right, Takes, CostsWithin, expression_tree, LiesOn, owed, owed_after, owed_direct, AnswersNext, Occurrences, owed_after_search, if_occurs}
use Rattle.sedmatch.proofs.OccurrenceLemmas.{search_falls, owed_as}
use Rattle.sedmatch.proofs.table_matcher.TableMatcher.next_occurrence.Goals as goal

-- a node at least pays for looks
direct_owed : (m n : ℕ) (last : Option ℕ) (o : Occurrences) (r : Option (ℕ × ℕ)) (s t : ℕ) → 1 ≤ m → (last ≡ None → IsTrue o.is_fresh) → IfSome r (LiesOn n last) → CostsWithin s t (owed_direct n last) (owed_after_search (λ q. owed_direct n (Some q)) r) →
    CostsWithin s t (owed m n last o) (owed_after m n r o)
direct_owed m n None o r s t some fresh lies pays = grind (arith, mul-le-mul_right (n + 1) some, owed_as)
direct_owed m n (Some q) o None s t some fresh lies pays = grind (arith, mul-le-mul_right (n + 1 - q) some, owed_as m n q o)
direct_owed m n (Some q) o (Some f) s t some fresh lies pays =
    let rest : n + 1 - q ≡ n + 1 - f.1 + (f.1 - q) = omega arith in
    grind (arith, rest, mul-add (86 * m) (n + 1 - f.1) (f.1 - q), mul-le-mul_right (f.1 - q) some, search_falls m n o.seeking q f.1 (omega arith), owed_as)

-- and one call by itself
direct_once : (m n : ℕ) (last : Option ℕ) (r : Option (ℕ × ℕ)) (s t : ℕ) → 1 ≤ m → CostsWithin s t (owed_direct n last) (owed_after_search (λ q. owed_direct n (Some q)) r) → Takes s t (64 * m * m * (n + 1) * (n + 1))
direct_once m n last r s t some pays = grind arith

answered : (c : goal.Joined-self) → AnswersNext c.args.self.now c.args.text.now c.args.last c.args.occurrences.now c.match-self.occurrences c.args.steps.now c.match-self.steps c.match-self.result
answered c =
    elim c.match-self.branch [
      | goal.in-Direct w ↦
          let is = rw (c.self.view_is, w.in-Direct.is) at c.self.invariant in
          let next = w.next_direct.ensures in
          let serves : ServesOn c.args.self.now c.args.text.now w.next_direct.result c.args.occurrences.now c.args.occurrences.now = grind (arith, c.requires.serves) in
          let occurs = if_occurs (expression_tree c.args.self.now) c.args.text.now c.args.last _ c.requires.last (next.next c.args.self.now is) next.lies in
          let cost = direct_owed _ _ _ c.args.occurrences.now _ _ _ is.2.arena.nonempty c.requires.serves.fresh next.lies next.cost in
          let once = direct_once _ _ c.args.last w.next_direct.result _ _ is.2.arena.nonempty next.cost in
          rw (w.result-is, w.occurrences-is, w.steps-is) (search (rules, next, next.next c.args.self.now is, next.passes c.args.self.now is, serves, occurs, cost, once))
      | goal.in-Passes w ↦ rw (w.result-is, w.occurrences-is, w.steps-is) (rw c.self.view_is at w.next_by_passes.ensures.answered)
    ]

pub returns : goal.returns
returns c = search (rules, answered c)
