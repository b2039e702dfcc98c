-- The tables by which all occurrences are found, and what the searches cost.
use Rattle.sedmatch.proofs.Words.{rules, common_steps, ◌≡◌, [], ◌∷◌, ◌++◌, length-append, ℕ, ◌+◌, ◌-◌, ◌*◌, ◌<◌, ◌≤◌, ◌⊎◌, Bool, false, List, length, get_or, Option, Some, None, IfSome, IsTrue, refl, sym, ap, ◌∙◌, subst, arith, mul-le-mul_left, unwrap_or, slice_get, slice_set, if◌then◌else◌, gets, IfSome_then, slice_get_read, slice_get_within, WrittenExpression, expression_tree, CanEndEarly, CostsWithin, Takes, TakesAtLeast, if_occurs, OccursAfter, next_span, leftmost_longest, SameSpace, KeptRoom, ServesOn, owed_seeking, owed_after_search, search_cost, owed_behind, Seeking, Table, search_long, looks_later, looks_past, looks_to_end, searched_then, Occurrences, HasOwn, HasTable, IsReverseAny, IsReady, RoomAt, ServesFrom, AnswersNext, IsLook, SomeFound, TakesFirst, bytes_passed, inl, inr, least_since, owed, owed_after, owed_direct, owed_search, LiesOn, SpanAnswer, Tree, found-iff, nat_lt, not_found-iff, owed_falls, square, suc, zero}
use Rattle.sedmatch.proofs.RoomLemmas.{IsUsed, roomy, unused}
use Rattle.sedpass.specs.Search.{SearchServes}

-- What is found.

-- the answer of a search is the match that is computed
pub answer_found : (e : Tree) (w : List ℕ) (from : ℕ) (r : Option (ℕ × ℕ)) → from ≤ length w → SpanAnswer e w from r → r ≡ leftmost_longest e w from
answer_found e w from r low is = grind (arith, common_steps, not_found-iff, found-iff)

-- one byte further on, where the text goes on, and where it doesn't
pub further_found : (n at : ℕ) (x : Option (ℕ × ℕ)) → at < n → x ≡ (if nat_lt at n then x else None)
further_found n at x on = search rules

pub further_none : (n at : ℕ) (x : Option (ℕ × ℕ)) → n ≤ at → None ≡ (if nat_lt at n then x else None)
further_none n at x end = search rules

pub lies_behind : (e : Tree) (w : List ℕ) (at : ℕ) (r : Option (ℕ × ℕ)) → SpanAnswer e w at r → IfSome r (λ f. at ≤ f.0 → f.0 ≤ f.1 → at < f.1) → IfSome r (LiesOn (length w) (Some at))
lies_behind e w at r is after = grind arith

pub lies_further : (e : Tree) (w : List ℕ) (at : ℕ) (r : Option (ℕ × ℕ)) → SpanAnswer e w (at + 1) r → IfSome r (LiesOn (length w) (Some at))
lies_further e w at r is = grind arith

-- What it costs.

-- less from a later place
pub search_falls : (m n : ℕ) (s : Seeking) (i k : ℕ) → i ≤ k → owed_seeking m n s k ≤ owed_seeking m n s i
search_falls m n s i k up = grind (arith, common_steps, owed_falls, mul-le-mul_left, Bool)

-- what is left is paid where the match ends behind the place
pub behind_paid : (m n at : ℕ) (old new : Seeking) (s t : ℕ) (r : Option (ℕ × ℕ)) → at ≤ n → IfSome r (LiesOn n (Some at)) → CostsWithin s t (owed_seeking m n old at + 86 * m) (owed_after_search (owed_seeking m n new) r) →
    CostsWithin s t (owed_behind m n old at) (owed_after_search (owed_behind m n new) r)
behind_paid m n at old new s t None low lies pays = (pays.0, omega (arith, pays.1, mul-le-mul_left {m = 1} {n = n + 1 - at} (86 * m) (omega arith)))
behind_paid m n at old new s t (Some f) low lies pays = (pays.0, omega (arith, pays.1, mul-le-mul_left {m = n + 1 - f.1 + 1} {n = n + 1 - at} (86 * m) (omega arith)))

-- two searches, of which the first one found the null string at the place
pub both_paid : (m n at : ℕ) (old mid new : Seeking) (s u t : ℕ) (first r : Option (ℕ × ℕ)) → first ≡ Some (at, at) → CostsWithin s u (owed_seeking m n old at + 43 * m) (owed_after_search (owed_seeking m n mid) first) →
    CostsWithin u t (owed_seeking m n mid (at + 1) + 43 * m) (owed_after_search (owed_seeking m n new) r) → CostsWithin s t (owed_seeking m n old at + 86 * m) (owed_after_search (owed_seeking m n new) r)
both_paid m n at old mid new s u t first r is one two = grind (arith, search_falls m n mid at (at + 1))

pub one_square : (m n at : ℕ) → 1 ≤ m → search_cost m n at ≤ 64 * m * m * (n + 1) * (n + 1)
one_square m n at some = omega (arith, search_long m n at, mul-le-mul_left m (square n), mul-le-mul_left (m * (64 * (n + 1) * (n + 1))) some)

pub both_square : (m n at : ℕ) → 1 ≤ m → at < n → search_cost m n at + search_cost m n (at + 1) ≤ 64 * m * m * (n + 1) * (n + 1)
both_square m n at some on =
    let few : (5 * n + 142 * (n - at) + 40 * (n - at - 1) + 44) + (5 * n + 142 * (n - (at + 1)) + 40 * (n - (at + 1) - 1) + 44) ≤ 64 * (n + 1) * (n + 1) = grind (arith, common_steps) in
    omega (arith, mul-le-mul_left m few, mul-le-mul_left (m * (64 * (n + 1) * (n + 1))) some)

-- The tables are as they were, but that one may be for the expression now, with as much room.
module _ (e : WrittenExpression) (w : List ℕ) (old new : Occurrences) (number : new.number ≡ old.number) (space : SameSpace old.seeking.kept new.seeking.kept) (shared : IsUsed e old.shared new.shared)
    (own : (x : ℕ) (t : Table) → slice_get new.own.items x ≡ Some (Some t) → (slice_get old.own.items x ≡ Some (Some t)) ⊎ ((x ≡ old.number) × IsReverseAny e t)) where
  at_after : (text x : ℕ) (f : WrittenExpression) → (x ≡ old.number → e ≡ f) → RoomAt text x f old → RoomAt text x f new
  at_after text x f same at =
      let kept : KeptRoom (length f.nodes) text new.shared new.seeking.kept = grind (arith, at.shared.2, shared.0, space) in
      let still : HasOwn x f new.own.items = λ t is. grind (arith, own x t is, at.own t) in
      search (rules, roomy (length f.nodes) e old.shared new.shared at.shared.0 shared, shared.0.0 ∙ at.shared.1, kept, still, space.edges)

  pub still_ready : RoomAt (length w) old.number e old → HasTable e w new → IsReady e w old new
  still_ready at has =
      let room = subst (λ x. RoomAt (length w) x e new) (sym number) (at_after (length w) old.number e (λ same. refl) at) in
      record { keeps = (number, λ text es sought room. record { each = λ x f is. at_after text x f (λ same. grind arith) (room.each x f is) }); room = room; table = has }

-- What the searches cost.

pub owed_as : (m n q : ℕ) (o : Occurrences) (b : Bool) → o.is_fresh ≡ b → owed m n (Some q) o ≡ (if b then 372 * m * (n + 1) + owed_direct n (Some q) else owed_behind m n o.seeking q)
owed_as m n q o b is = ap (λ (v : Bool). if v then 372 * m * (n + 1) + owed_direct n (Some q) else owed_behind m n o.seeking q) is

due_enough : (m n : ℕ) (last : Option ℕ) (old mid : Occurrences) → 1 ≤ m → (last ≡ None → IsTrue old.is_fresh) → (old.is_fresh ≡ false → mid ≡ old) →
    (IsTrue old.is_fresh → owed_behind m n mid.seeking 0 + 43 * m ≤ 308 * m * (n + 1)) → owed_search m n last mid.seeking ≤ owed m n last old
due_enough m n None old mid some fresh same begun = omega (arith, begun (fresh refl), mul-le-mul_left (n + 1) some)
due_enough m n (Some q) old mid some fresh same begun = grind (arith, search_falls m n mid.seeking 0 q, mul-le-mul_left {m = n + 1 - q} {n = n + 1 - 0} (86 * m) (omega arith), owed_as m n q old)

-- its own table, in use, served and was set again
pub own_ready : (e : WrittenExpression) (w : List ℕ) (o new : Occurrences) (t u : Table) (v : Option Table) → RoomAt (length w) o.number e o → HasTable e w o → IsTrue o.by_own → v ≡ get_or o.own.items o.number v → v ≡ Some t →
    u.way ≡ t.way → SearchServes e w u new.seeking → SameSpace o.seeking.kept new.seeking.kept →
    (new.number ≡ o.number) × (new.shared ≡ o.shared) × (new.by_own ≡ o.by_own) × (new.own.items ≡ slice_set o.own.items o.number (Some u)) → IsReady e w o new
own_ready e w o new t u v at has by here is way serves space same =
    let there : slice_get o.own.items o.number ≡ Some (Some t) = grind (arith, common_steps, gets, has.own by) in
    let set : slice_get new.own.items new.number ≡ Some (Some u) = grind (arith, common_steps, gets, slice_get_within, same) in
    let any : IsReverseAny e u = (way ∙ (at.own t there).0, serves.kept.region.table) in
    let own : (x : ℕ) (y : Table) → slice_get new.own.items x ≡ Some (Some y) → (slice_get o.own.items x ≡ Some (Some y)) ⊎ ((x ≡ o.number) × IsReverseAny e y) = rw same.3 (λ x y is. grind (arith, common_steps, gets, any)) in
    still_ready e w o new same.0 space (rw same.1 (unused e o.shared)) own at (record { own = λ h. (u, set, serves); shared = λ h. cc })

-- the tables of the first n of these expressions
pub record AreFirst (es : List WrittenExpression) (n : ℕ) (own : List (Option Table)) : Type 0 where
  pub long : length own ≡ n
  pub each : (x : ℕ) (e : WrittenExpression) → slice_get es x ≡ Some e → HasOwn x e own

pub one_more : (es : List WrittenExpression) (n : ℕ) (own own' : List (Option Table)) (e : WrittenExpression) (o : Option Table) → AreFirst es n own → n < length es → e ≡ get_or es n e → IfSome o (IsReverseAny e) → own' ≡ own ++ o ∷ [] → AreFirst es (n + 1) own'
one_more es n own own' e o are inside here reverse_any push = record {
  long = grind (arith, are.long, length-append own (o ∷ []));
  each = λ x f is t at. grind (arith, common_steps, gets, are.each x f is t, are.long, slice_get_read es (length es) n e refl inside here);
}

-- The first occurrence.

pub first_paid : (m n start : ℕ) (old new : Seeking) (s a t : ℕ) (r : Option (ℕ × ℕ)) → CostsWithin s a n 0 → CostsWithin a t (owed_seeking m n old start + 43 * m) (owed_after_search (owed_seeking m n new) r) →
    CostsWithin s t (owed_search m n None old) (owed_after_search (owed_behind m n new) r)
first_paid m n start old new s a t None looks pays = grind (arith, search_falls m n old 0 start)
first_paid m n start old new s a t (Some f) looks pays = grind (arith, search_falls m n old 0 start, mul-le-mul_left {m = n + 1 - f.1} {n = n + 1 - 0} (86 * m) (omega arith))

pays : (m n k : ℕ) → k ≤ 64 * (m * (n + 1)) → k * m * (n + 1) ≤ 64 * m * m * (n + 1) * (n + 1)
pays m n k enough = omega (arith, mul-le-mul_left (m * (n + 1)) enough)

pub first_square : (m n start s a t : ℕ) → 1 ≤ m → CostsWithin s a n 0 → Takes a t (search_cost m n start) → Takes s t (64 * m * m * (n + 1) * (n + 1))
first_square m n start s a t some looks each =
    let few : 193 * n + 48 ≤ 64 * (n + 1) * (n + 1) = grind (arith, common_steps) in
    (omega (arith, looks.0, each.0), omega (arith, looks.1, each.1, search_long m n start, mul-le-mul_left n some, mul-le-mul_left m few, mul-le-mul_left (m * (64 * (n + 1) * (n + 1))) some))

pub first_due : (m n : ℕ) (last : Option ℕ) (old mid new : Occurrences) (r : Option (ℕ × ℕ)) (s t : ℕ) → 1 ≤ m → (last ≡ None → IsTrue old.is_fresh) →
    (IsTrue old.is_fresh → owed_behind m n mid.seeking 0 + 43 * m ≤ 308 * m * (n + 1)) → new.is_fresh ≡ false → CostsWithin s t (owed_search m n last mid.seeking) (owed_after_search (owed_behind m n new.seeking) r) →
    (last ≡ None → Takes s t (193 * m * (n + 1))) → last ≡ None → TakesFirst m n new s t r
first_due m n None old mid new r s t some fresh begun used cost first none = ((cost.0, grind (arith, cost.1, begun (fresh refl), mul-le-mul_left (n + 1) some, owed_as m n)), first refl)
first_due m n (Some q) old mid new r s t some fresh begun used cost first none = search rules

-- a look whether there is any match is paid for before the first search
pub looked_first : (m n : ℕ) (old new : Occurrences) (s a t : ℕ) (r : Option (ℕ × ℕ)) → 1 ≤ m → 16 ≤ n → Takes s a (43 * m * (n + 1)) → TakesFirst m n new a t r →
    CostsWithin s t (owed m n None old) (owed_after m n r new) × Takes s t (64 * m * m * (n + 1) * (n + 1))
looked_first m n old new s a t r some long look first = grind (arith, pays m n 236 (omega (arith, mul-le-mul_left (n + 1) some, long)))

-- it showed that there is none
pub none_shown : (e : WrittenExpression) (w : List ℕ) (last : Option ℕ) (o : Occurrences) (s t : ℕ) → 1 ≤ length e.nodes → (last ≡ None) × (SomeFound (expression_tree e) w 0 → ⊥) → IsLook (length e.nodes) (length w) last s t →
    AnswersNext e w last o o s t None
none_shown e w last o s t some (is, none) look =
    let m = length e.nodes in
    let n = length w in
    let cost : Takes s t (43 * m * (n + 1)) = grind (arith, look) in
    let next = answer_found (expression_tree e) w 0 None (omega arith) (tt, λ i k low inside is. none (i, k, low, inside, is), tt) in
    rw is (search (rules, next, cost, pays m n 43 (omega (arith, mul-le-mul_left (n + 1) some))))

-- the first search came after it
pub after_look : (e : WrittenExpression) (w : List ℕ) (last : Option ℕ) (old new : Occurrences) (r : Option (ℕ × ℕ)) (s a t : ℕ) → 1 ≤ length e.nodes → IsLook (length e.nodes) (length w) last s a →
    (last ≡ None → TakesFirst (length e.nodes) (length w) new a t r) → AnswersNext e w last old new a t r → AnswersNext e w last old new s t r
after_look e w last old new r s a t some (inr same) first answers = rw (← same) answers
after_look e w last old new r s a t some (inl look) first answers =
    let paid = looked_first (length e.nodes) (length w) old new s a t r some look.1 look.2 (first look.0) in
    let since = λ (x : ℕ). least_since s a t x look.2.0 in
    let counts = IfSome_then r answers.counts (λ (f : ℕ × ℕ). since (f.1 - f.0)) in
    rw look.0 (search (rules, answers, paid, counts, λ (early : CanEndEarly (expression_tree e)). IfSome_then r (answers.passes early) (λ (f : ℕ × ℕ). since (bytes_passed last f))))

-- what a search by passes answers
pub shows : (e : WrittenExpression) (w : List ℕ) (last : Option ℕ) (old mid new : Occurrences) (r : Option (ℕ × ℕ)) (s t : ℕ) → 1 ≤ length e.nodes → ServesFrom e w last old → IsReady e w old mid → IsReady e w mid new →
    (old.is_fresh ≡ false → mid ≡ old) → (IsTrue old.is_fresh → owed_behind (length e.nodes) (length w) mid.seeking 0 + 43 * length e.nodes ≤ 308 * length e.nodes * (length w + 1)) → new.is_fresh ≡ false →
    r ≡ next_span (leftmost_longest (expression_tree e) w) (length w) last → IfSome r (OccursAfter (expression_tree e) w last) →
    CostsWithin s t (owed_search (length e.nodes) (length w) last mid.seeking) (owed_after_search (owed_behind (length e.nodes) (length w) new.seeking) r) →
    Takes s t (64 * length e.nodes * length e.nodes * (length w + 1) * (length w + 1)) → IfSome r (λ f. TakesAtLeast s t (f.1 - unwrap_or last 0)) → AnswersNext e w last old new s t r
unfolding TakesAtLeast
shows e w last old mid new r s t some serves ready searched same begun used next occurs cost once counts =
    let m = length e.nodes in
    let serves' : ServesOn e w r old new = (
      (searched.keeps.0 ∙ ready.keeps.0, λ text es sought room. grind (arith, searched.keeps.1 text es, ready.keeps.1 text es sought room)),
      IfSome_then r occurs (λ f here. record { room = searched.room; fresh = λ h. cc; used = λ h. searched.table }),
    ) in
    let cost' : t + owed_after m (length w) r new ≤ s + owed m (length w) last old = grind (arith, cost.1, used, due_enough m (length w) last old mid some serves.fresh same begun, owed_as) in
    search (rules, next, occurs, serves', cost.0, cost', once, counts)

-- what decides the next occurrence
pub ruleset nexts = (answer_found, both_square, further_found, further_none, if_occurs, lies_behind, lies_further, looks_later, looks_past, looks_to_end, one_square, searched_then)
