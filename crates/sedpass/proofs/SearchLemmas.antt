-- What the pass from the text's end says of matches of the whole expression, and what searches cost.
use Rattle.sedpass.proofs.Words.{cases_lt, ◌≡◌, ℕ, zero, suc, ◌+◌, ◌-◌, ◌*◌, ◌/◌, ◌<◌, ◌≤◌, ◌↔◌, false, max, List, length, Option, Some, None, IsTrue, inl, inr, refl, sym, ap, true≢false, arith, mul-le-mul_left, IfSome, rules, mul-div-le, mul-le-mul_right, mul-sub, IsArena, WrittenExpression, expression_tree, Tree, TakesAtLeast, SpanAnswer, Starts, HasSpan, IsStart, IsLongestFrom, starts_to, Narrowed, NoneIn, Table, Matches, NotFound, SomeFound, Matches-forward, Matches-within, Region, Seeking, least_less, least_both, least_since, Kept, AllMarked, ends_shown, IsKept, CeasesAt, all_of, ReachesEnd, LooksFrom, owed_after_search, owed_kept, owed_seeking, search_cost, Searched, root_of}
use Rattle.sedpass.proofs.OwedLemmas.{owed_small}
use Rattle.sedpass.proofs.LeaveLemmas.{CanLeave-last, last-leaves, reaches_ends}
use Rattle.sedpass.proofs.MeetingLemmas.{stops_at}
use Rattle.sedpass.proofs.ForwardLemmas.{root_spans}

-- where one place more begins none
pub none_more : (e : Tree) (w : List ℕ) (from i : ℕ) → NoneIn e w from i → IsLongestFrom e w i None → NoneIn e w from (i + 1)
none_more e w from i none longest h k low high span = search rules

module _ (p : WrittenExpression) (w : List ℕ) (arena : IsArena p.nodes) where
  abbrev pub all : Starts
  all = starts_to 0 (length w)

  -- the root is marked exactly where a match begins
  pub begins_at : (q : ℕ) → q ≤ length w → ReachesEnd p.nodes w (root_of p) all (root_of p) q ↔ ((k : ℕ) × Matches (expression_tree p) w q k)
  begins_at q low = grind (arith, reaches_ends p.nodes w (root_of p) (root_of p) q all arena, all_of, root_spans p w q, Matches-within (expression_tree p) w q)

  -- so none begins where it isn't marked
  pub none_marked : (from start : ℕ) → start ≤ length w → AllMarked p.nodes w (root_of p) all (root_of p) false from start → NoneIn (expression_tree p) w from start
  none_marked from start low none = λ i k after before span. absurd (true≢false (sym ((none i after before).1 ((begins_at i (omega arith)).1 (k, span)))))

  -- nor at the end, where it doesn't match the null string
  pub none_kept : (from start : ℕ) → start ≡ length w → AllMarked p.nodes w (root_of p) all (root_of p) false from start → (HasSpan p.nodes w (root_of p) start start → ⊥) → NotFound (expression_tree p) w from
  none_kept from start end none null i k after within span =
      grind (arith, none_marked from start (omega arith) none i k after, Matches-forward (expression_tree p) w i k span, Matches-within (expression_tree p) w i k within span, root_spans p w i k, span, null)

  -- one begins where the root is marked before the end, or, at the end, where it is null
  pub begins_some : (start : ℕ) → start ≤ length w → (start < length w → ReachesEnd p.nodes w (root_of p) all (root_of p) start) → (start ≡ length w → HasSpan p.nodes w (root_of p) start start) →
      (k : ℕ) × Matches (expression_tree p) w start k
  begins_some start low found null = search (rules, begins_at, root_spans)

  -- a pass from where one begins ceases to meet the kept one at its longest end
  pub longest_kept : (start stop k : ℕ) → start ≤ length w → Matches (expression_tree p) w start k → CeasesAt p.nodes w (root_of p) all (root_of p) start stop → IsLongestFrom (expression_tree p) w start (Some stop)
  longest_kept start stop k low span ceases =
      let stop_is = stops_at p.nodes w (root_of p) (root_of p) all arena (omega (arith, arena.nonempty)) (omega arith) (IsStart all)
      (λ q. (last-leaves p.nodes w (root_of p) all arena (root_of p) q (all_of _ refl), CanLeave-last p.nodes w (root_of p) all arena (root_of p) q (all_of _ refl)))
      start stop k (Matches-forward (expression_tree p) w start k span) ((root_spans p w start k).1 span) (omega (arith, Matches-within (expression_tree p) w start k low span)) ceases in
      search (rules, stop_is, root_spans, Matches-within (expression_tree p) w start)

-- what a kept pass over all places says
pub shown_whole : (P : ℕ → Starts → Type 0) (p : WrittenExpression) (w : List ℕ) (t : Table) (k : Kept) → IsKept p w t k → IsTrue t.way.all_starts → P k.region.root (ends_shown t.way.all_starts k.region.end) → P (root_of p) (starts_to 0 (length w))
shown_whole P p w t k kept all_starts shown = search rules

-- Costs.

pub kept_cost : (m n from start stop s0 s1 s2 s3 o0 o1 o2 : ℕ) → 1 ≤ m → from ≤ start → start ≤ stop → stop ≤ n → s1 + (o1 + 2 * from) ≤ s0 + (o0 + 2 * start + 2) → s2 ≤ s1 + 1 →
    s3 + (o2 + 36 * m * start) ≤ s2 + (o1 + 36 * m * (stop + 1)) → s3 + (o2 + 42 * m * (n - stop)) ≤ s0 + (o0 + 42 * m * (n - from) + 42 * m)
kept_cost m n from start stop s0 s1 s2 s3 o0 o1 o2 some low on within seek null cut = grind (arith, mul-sub, mul-le-mul_right (start - from) some)

-- what is owed while trials are made, and once they are given up
pub owed_trying : (m n place : ℕ) (s : Seeking) → s.tried ≤ n → owed_seeking m n s place ≡ 40 * m * (2 * n + 1 - s.tried) + 142 * m * (n - place)
owed_trying m n place s few = search rules

pub owed_given_up : (m n place : ℕ) (s : Seeking) → n < s.tried → owed_seeking m n s place ≡ owed_kept m n s.kept.region place
owed_given_up m n place s many = search rules

pub owed_kept_few : (m n : ℕ) (r : Region) (place : ℕ) → r.end ≤ n → owed_kept m n r place ≤ 142 * m * (n - place)
owed_kept_few m n r place inside = omega (arith, owed_small m r place, mul-sub, mul-le-mul_left m inside)

pub owed_either : (m n place : ℕ) (s : Seeking) → s.kept.region.end ≤ n → owed_seeking m n s place ≤ 40 * m * (2 * n + 1 - s.tried) + 142 * m * (n - place)
owed_either m n place s inside = grind (arith, owed_trying m n place s, owed_given_up m n place s, owed_kept_few m n s.kept.region place inside)

pub owed_later : (m n : ℕ) (s : Seeking) (r : Option (ℕ × ℕ)) → n < s.tried → owed_after_search (owed_seeking m n s) r ≡ owed_after_search (λ q. owed_kept m n s.kept.region q) r
owed_later m n s r many = grind (arith, owed_given_up)

-- the places that trials went over, as those that are left for them
pub tried_left : (m n tried tried' s t a b : ℕ) → tried ≤ n → tried' ≤ 2 * n + 1 → t + (40 * m * tried + a) ≤ s + (40 * m * tried' + b) → t + (40 * m * (2 * n + 1 - tried') + a) ≤ s + (40 * m * (2 * n + 1 - tried) + b)
tried_left m n tried tried' s t a b few few' pays = omega (arith, mul-sub, mul-le-mul_left m few, mul-le-mul_left m few')

-- a hit
pub hit_cost : (m n from i j s t : ℕ) (old new : Seeking) → 1 ≤ m → from ≤ i → i ≤ j → j ≤ n → old.tried ≤ n → new.tried ≤ 2 * n + 1 → new.kept.region.end ≤ n → t + (40 * m * old.tried + 3 * from) ≤ s + (40 * m * (new.tried + (j + 1 - i)) + 3 * (i + 1)) →
    t + owed_seeking m n new j ≤ s + (owed_seeking m n old from + 43 * m)
hit_cost m n from i j s t old new some low on within few few' inside pays =
    rw (owed_trying m n from old few)
    (omega (arith, owed_either m n j new inside, mul-sub, mul-sub m (j + 1) i, mul-le-mul_right (i - from) some, mul-le-mul_left m low, mul-le-mul_left m on, mul-le-mul_left m within, mul-le-mul_left m few, mul-le-mul_left m few'))

-- and of one search, whatever was found out before it
few_tried : (m n x tried z : ℕ) → z ≤ max tried (n / 8) + x → 40 * m * z ≤ 40 * m * tried + 5 * (m * n) + 40 * m * x
few_tried m n x tried z few =
    let most : z ≤ tried + n / 8 + x = omega arith in
    omega (arith, mul-le-mul_left m most, mul-le-mul_left m (mul-div-le n 8))

pub trials_each : (m n from room to tried s t : ℕ) → 1 ≤ m → from ≤ n → to ≤ n + 1 → room ≤ max tried (n / 8) + (n + 1 - from) → t + (40 * m * tried + 3 * from) ≤ s + (40 * m * room + 3 * to) → t ≤ s + search_cost m n from
trials_each m n from room to tried s t some low within few pays =
    omega (arith, few_tried m n (n + 1 - from) tried room few, mul-sub m n from, mul-sub m (n + 1) from, mul-le-mul_right (n - from) some, mul-le-mul_left m low)

pub tired_each : (m n from k tried tried' s t1 t2 : ℕ) → 1 ≤ m → from ≤ k → (k ≡ from → tried' ≡ tried) → k ≤ n → tried' ≤ max tried (n / 8) + (n + 1 - from) → t1 + (40 * m * tried + 3 * from) ≤ s + (40 * m * tried' + 3 * k) →
    t2 ≤ t1 + (142 * m * (n - k) + 42 * m) → t2 ≤ s + search_cost m n from
tired_each m n from k tried tried' s t1 t2 some low none within few pays more = elim (cases_lt from k) [
  | inl on ↦ omega (arith, few_tried m n (n + 1 - from) tried tried' few, mul-sub m n from, mul-sub m (n - from) 1, mul-sub m (n + 1) from, mul-sub m n k, mul-le-mul_right (k - from) some, mul-sub m k from, mul-le-mul_left m on, mul-le-mul_left m within)
  | inr same ↦
      let at : k ≡ from = omega arith in
      search (rules, rw (none at) at pays, rw at at more)
]

-- trials over the places up to k, and the pass from the text's end from there on
pub tired_cost : (m n from k tried' s t u after : ℕ) (r : Option (ℕ × ℕ)) (old : Seeking) → 1 ≤ m → from ≤ k → k ≤ n → old.kept.region.end ≤ n → (n < old.tried → k ≡ from) → (k ≡ from → tried' ≡ old.tried) → (old.tried ≤ n → tried' ≤ 2 * n + 1) →
    t + (40 * m * old.tried + 3 * from) ≤ s + (40 * m * tried' + 3 * k) → u + after ≤ t + (owed_kept m n old.kept.region k + 42 * m) → u + after ≤ s + (owed_seeking m n old from + 43 * m)
tired_cost m n from k tried' s t u after r old some low within inside enough none few pays more = elim (cases_lt n old.tried) [
  | inl over ↦
      let at : k ≡ from = enough over in
      let first : t ≤ s = omega (arith, pays, ap (λ v. 40 * m * v) (none at)) in
      rw (owed_given_up m n from old over) (omega (arith, first, rw at at more))
  | inr le ↦
      let left = tried_left m n old.tried tried' s t (3 * from) (3 * k) le (few le) pays in
      rw (owed_trying m n from old le)
      (omega (arith, more, owed_kept_few m n old.kept.region k inside, left, mul-sub m n from, mul-sub m n k, mul-le-mul_left m low, mul-le-mul_left m within, mul-le-mul_right (k - from) some, mul-sub m k from))
]

-- of one by a pass from the text's end alone
pub kept_each : (m n : ℕ) (r : Region) (from s t after : ℕ) → r.end ≤ n → t + after ≤ s + (owed_kept m n r from + 42 * m) → t ≤ s + (142 * m * (n - from) + 42 * m)
kept_each m n r from s t after inside pays = omega (arith, owed_kept_few m n r from inside)

-- of a search in a text, by its length
pub search_long : (m n from : ℕ) → search_cost m n from ≤ m * (192 * n + 48)
search_long m n from = search rules

-- a place before which none begins is as good as one before it
pub some_from : (e : Tree) (w : List ℕ) (from start : ℕ) → Narrowed e w from (Some start) → SomeFound e w start ↔ SomeFound e w from
some_from e w from start narrowed = search rules

-- the match from a place on, where none begins before another
pub later_answer : (e : Tree) (w : List ℕ) (from k : ℕ) (r : Option (ℕ × ℕ)) → from ≤ k → NoneIn e w from k → SpanAnswer e w k r → SpanAnswer e w from r
later_answer e w from k r low none is = grind arith

-- one search after another
pub searched_then : (p : WrittenExpression) (w : List ℕ) (a1 a2 a3 b1 b2 b3 : Table) (s1 s2 s3 : Seeking) → Searched p w a1 a2 b1 b2 s1 s2 → Searched p w a2 a3 b2 b3 s2 s3 → Searched p w a1 a3 b1 b3 s1 s3
searched_then p w a1 a2 a3 b1 b2 b3 s1 s2 s3 one two = search rules

-- looks up to a later place count too
pub looks_later : (from k s a b : ℕ) (r : Option (ℕ × ℕ)) → TakesAtLeast s a (k - from) → LooksFrom k a b r → LooksFrom from s b r
looks_later from k s a b r before after = grind (arith, least_both)

-- those up to the end alone
pub looks_to_end : (from s a : ℕ) (r : Option (ℕ × ℕ)) → LooksFrom from s a r → IfSome r (λ f. TakesAtLeast s a (f.1 - from))
looks_to_end from s a r looks = grind (arith, least_less)

-- and those of a search that went on one byte further
pub looks_past : (at s a b : ℕ) (r : Option (ℕ × ℕ)) → s ≤ a → LooksFrom (at + 1) a b r → IfSome r (λ f. TakesAtLeast s b (f.1 - at))
looks_past at s a b None grows after = tt
looks_past at s a b (Some f) grows after = least_since s a b (f.1 - at) grows (least_less a b (f.1 + 1 - (at + 1)) (f.1 - at) after (omega arith))

-- What a search takes at most.

pub square : (n : ℕ) → n ≤ n * n
square zero = omega arith
square (suc n) = search rules
