-- Passes for the whole expression.
use Rattle.sedpass.proofs.Words.{IsExpr, rules, inl, inr, ◌≡◌, ℕ, ◌+◌, ◌-◌, ◌*◌, ◌/◌, ◌^◌, ◌<◌, ◌≤◌, ◌⊎◌, ◌↔◌, Bool, true, false, List, length, Option, Some, None, IsTrue, refl, sym, subst, true≢false, arith, mul-le-mul_left, slice_get, is_some, IfSome, mul-sub, common_steps, then_some, option_or, cases_lt, cases_Bool, both_ways, slice_get_within, expression_tree, Tree, Node, Starts, TakesAtLeast, LooksPast, HasSpan, SomeSpan, IsLongestFrom, Matches, SomeFound, Matches-forward, Matches-within, StateFlags, PlaceKind, WrittenExpression, Way, Table, Passed, seen-arena, seen-length, least_less, least_since, least_both, cases_eq, nodes_of, root_of, state_of, FlagsShow, LeadsOn, BeginsIn, NamesState, IsTable, IsForwardOne, SameShape, code_of, starts_of, LastBelow, IsPassEnd, Arrives, EndsBelow, PassIs, is_over, ◌∙◌}
use Rattle.sedpass.proofs.RowLemmas.{dead, row_root, row_empty}
use Rattle.sedpass.proofs.TableLemmas.{leads_place, names_state, names_flags, names_map}

-- last ends
module _ (nodes : List Node) (w : List ℕ) (r : ℕ) (s : Starts) where
  last_step : (n : ℕ) (end : Option ℕ) → (SomeSpan nodes w r s n → ⊥) → LastBelow nodes w r s n end → LastBelow nodes w r s (n + 1) end
  last_step n None none last = λ k low some. elim (cases_eq k n) [ inl e ↦ none (rw e at some) | inr ne ↦ last k (omega (arith, ne)) some ]
  last_step n (Some j) none last = (omega (arith, last.0), last.1, λ k low some. elim (cases_eq k n) [ inl e ↦ absurd (none (rw e at some)) | inr ne ↦ last.2 k (omega (arith, ne)) some ])

  -- if none ends from n on, the last one below n is the last of all
  all_below : (all_starts : Bool) (n : ℕ) (end : Option ℕ) → ((k : ℕ) → n ≤ k → SomeSpan nodes w r s k → ⊥) → LastBelow nodes w r s n end → IsPassEnd all_starts nodes w r s end
  all_below all_starts n None none last = λ k some. elim (cases_lt k n) [ inl lt ↦ last k lt some | inr ge ↦ none k ge some ]
  all_below all_starts n (Some j) none last = (last.1, λ e k some. elim (cases_lt k n) [ inl lt ↦ last.2 k lt some | inr ge ↦ absurd (none k ge some) ])

-- nothing ends before a start
pub none_before : (p : WrittenExpression) (way : Way) (w : List ℕ) (from : ℕ) → EndsBelow p way w from from None
none_before p way w from k low some = search (rules, Matches-forward)

-- at a place: a code of its state
module _ (p : WrittenExpression) (t : Table) (w : List ℕ) (start place code o : ℕ) (end : Option ℕ) (flags : StateFlags) (table : IsTable p t) (after : start ≤ place) (within : place ≤ length w)
    (shows : (f : StateFlags) (u : ℕ) → u < 536870912 → code ≡ code_of f u → o ≡ u) (shown : (f : StateFlags) (u : ℕ) → u < 536870912 → code ≡ code_of f u → flags ≡ f)
    (n : NamesState (length p.nodes) t (Arrives p t.way w start place) code) (last : EndsBelow p t.way w start place end) where
  arrived : Arrives p t.way w start place (state_of (length p.nodes) t (o / 2 ^ t.layout.shift))
  arrived = names_state p t table (Arrives p t.way w start place) code o n shows

  is_shown : FlagsShow (state_of (length p.nodes) t (o / 2 ^ t.layout.shift)) flags
  is_shown = names_flags p t table (Arrives p t.way w start place) code o n shows flags shown

  ends_here : IsTrue flags.ends ↔ SomeSpan (nodes_of t.way p) w (root_of p) (starts_of t.way.all_starts start w) place
  ends_here = grind (arith, row_root, seen-arena t.way.mirrored p table.expr.arena, arrived, is_shown)

  -- where no leaf is entered no match goes on
  dead_end : (noted : Option ℕ) → t.way.all_starts ≡ false → IsTrue flags.dead → EndsBelow p t.way w start (place + 1) noted → IsPassEnd t.way.all_starts (nodes_of t.way p) w (root_of p) (starts_of t.way.all_starts start w) noted
  dead_end noted single is =
      let none = row_empty _ w _ place _ t.way.mirrored _ _ arrived.1 (is_shown.1.0 is) in
      all_below _ w _ _ _ _ noted (λ k late some. dead _ w _ place some.0 k _ (seen-arena t.way.mirrored p table.expr.arena) (rw arrived.0 (omega (arith, table.expr.arena.nonempty, seen-length t.way.mirrored p)))
      none some.1 (omega (arith, (rw single at some.1).1)) (omega arith) (rw arrived.0 some.2))

  pub arrive_at : (noted : Option ℕ) (over : Bool) → noted ≡ option_or (then_some flags.ends place) end → (IsTrue over → IsTrue (is_over t.way.all_starts flags)) → PassIs p t w start (record { offset = o; place = place; end = noted; over = over })
  arrive_at noted over is_noted is_over =
      let all : EndsBelow p t.way w start (place + 1) noted = elim (cases_Bool flags.ends) [
        | inl is ↦ rw (is_noted, is) (omega arith, ends_here.0 is, λ k low h. omega arith)
        | inr is ↦ rw (is_noted, is) (last_step _ w _ _ place end (λ some. both_ways flags.ends is (ends_here.1 some)) last)
      ] in
      search (rules, arrived, ends_here, both_ways, dead, dead_end)

-- the code of a state that shows nothing
pub plain_shows : (code o : ℕ) → o + 536870912 ≡ code → ((f : StateFlags) (u : ℕ) → u < 536870912 → code ≡ code_of f u → (f.ends ≡ false) × (f.dead ≡ false)) →
    (f : StateFlags) (u : ℕ) → u < 536870912 → code ≡ code_of f u → (o ≡ u) × (record { ends = false; dead = false } ≡ f)
plain_shows code o sum plain f u small is = let two = plain f u small is in search rules

-- a pass goes on, in the table as it was or in one that was added to
pub goes_on : (p : WrittenExpression) (t u : Table) (w : List ℕ) (start byte code : ℕ) (edge : Bool) (mid next : Passed) → IsExpr p.nodes p.groups → u.way ≡ t.way → PassIs p t w start mid → slice_get w mid.place ≡ Some byte → (IsTrue edge ↔ (mid.place + 1 ≡ length w)) →
    NamesState (length p.nodes) u (LeadsOn p t.way (state_of (length p.nodes) t (mid.offset / 2 ^ t.layout.shift)) byte edge) code →
    (start ≤ mid.place + 1 → mid.place + 1 ≤ length w → NamesState (length p.nodes) u (Arrives p u.way w start (mid.place + 1)) code → EndsBelow p u.way w start (mid.place + 1) mid.end → PassIs p u w start next) → PassIs p u w start next
goes_on p t u w start byte code edge mid next expr way pass is edges names arrive =
    let inside = slice_get_within w mid.place byte is in
    let arrived : NamesState (length p.nodes) u (Arrives p t.way w start (mid.place + 1)) code = names_map _ _ _ _ _ (λ b leads.
    (leads.0 ∙ pass.arrived.0, leads_place p t.way w _ _ byte edge _ b expr (omega (arith, pass.arrived.0, expr.arena.nonempty)) is edges (search rules) pass.arrived.1 leads)) names in
    arrive (omega (arith, pass.after)) (omega arith) (search (rules, way, arrived)) (search (rules, way, pass.last))

-- where the text's edge doesn't come
pub not_last : (w : List ℕ) (place to : ℕ) → place < to → to < length w → IsTrue false ↔ (place + 1 ≡ length w)
not_last w place to low inside = search rules

-- the beginning of a pass
pub names_first : (p : WrittenExpression) (t u : Table) (w : List ℕ) (from : ℕ) (kind : PlaceKind) (code : ℕ) → u.way ≡ t.way → t.way.mirrored ≡ false → from ≤ length w → (IsTrue kind.begin ↔ (from ≡ 0)) → (IsTrue kind.end ↔ (from ≡ length w)) →
    NamesState (length p.nodes) u (BeginsIn (nodes_of t.way p) t.way (root_of p) kind) code → NamesState (length p.nodes) u (Arrives p u.way w from from) code
names_first p t u w from kind code way mirrored low begin end names =
    subst (λ (x : Way). NamesState (length p.nodes) u (Arrives p x w from from) code) (sym way)
    (names_map (length p.nodes) u (BeginsIn (nodes_of t.way p) t.way (root_of p) kind) (Arrives p t.way w from from) code (λ a begins. (begins.0, rw (begins.0) (begins.1 w (starts_of t.way.all_starts from w) (rw mirrored (begin, end)) (search rules)))) names)

-- The end of a pass.

-- the last node matches what the expression does
pub root_spans : (p : WrittenExpression) (w : List ℕ) (i k : ℕ) → HasSpan p.nodes w (root_of p) i k ↔ Matches (expression_tree p) w i k
root_spans p w i k = search rules

module _ (p : WrittenExpression) (w : List ℕ) (from : ℕ) (all_starts : Bool) where
  pub end_longest : (end : Option ℕ) → all_starts ≡ false → IsPassEnd all_starts p.nodes w (root_of p) (starts_of all_starts from w) end → IsLongestFrom (expression_tree p) w from end
  end_longest None single none = λ k span. none k (from, (rw single (omega arith, omega arith)), (root_spans p w from k).1 span)
  end_longest (Some j) single is =
      let same : is.0.0 ≡ from = omega (arith, rw single at is.0.1) in
      ((root_spans p w from j).0 (rw same at is.0.2), λ k span. is.1 single k (from, rw single (omega arith, omega arith), (root_spans p w from k).1 span))

  pub end_found : from ≤ length w → (end : Option ℕ) → IsTrue all_starts → IsPassEnd all_starts p.nodes w (root_of p) (starts_of all_starts from w) end → IsTrue (is_some end) ↔ SomeFound (expression_tree p) w from
  end_found low None all none = (λ h. absurd (true≢false (sym h)), λ some. absurd (none some.1 (some.0, rw all (some.2, some.3), (root_spans p w some.0 some.1).1 some.4)))
  end_found low (Some j) all is = (λ h. (is.0.0, j, (rw all at is.0.1).0, (rw all at is.0.1).1, (root_spans p w is.0.0 j).0 is.0.2), λ some. refl)

  pub end_passes : (nodes : List Node) (r : ℕ) (starts : Starts) (s t place : ℕ) → from ≤ length w → (end : Option ℕ) → LastBelow nodes w r starts (place + 1) end → IsPassEnd all_starts p.nodes w (root_of p) (starts_of all_starts from w) end →
      TakesAtLeast s t (2 * (place - from) + 1) → IfSome end (λ j. LooksPast (expression_tree p) w from s t)
  end_passes nodes r starts s t place low end last is looks = grind (arith, common_steps, Matches-within, root_spans, least_less)

-- a pass forwards that is over, or came to the text's end
pub seen_end : (p : WrittenExpression) (way : Way) (t : Table) (w : List ℕ) (from : ℕ) (at : Passed) → t.way ≡ way → way.mirrored ≡ false → from ≤ length w → PassIs p t w from at → (at.over ≡ true) ⊎ (length w ≤ at.place) →
    IsPassEnd way.all_starts p.nodes w (root_of p) (starts_of way.all_starts from w) at.end
seen_end p way t w from at same mirrored low pass done = search (rules, all_below, Matches-within)

-- a table of passes forwards from one start is one still
pub forward_one_still : (p : WrittenExpression) (a b : Table) → IsForwardOne p a → IsTable p b → SameShape a b → IsForwardOne p b
forward_one_still p a b is table shape = search rules

-- what passes over a match from a later place on does so from an earlier one, where the looks before went as far
pub passes_later : (e : Tree) (w : List ℕ) (p q s t u : ℕ) → p ≤ q → s ≤ t → TakesAtLeast s t (q - p) → LooksPast e w q t u → LooksPast e w p s u
passes_later e w p q s t u low grows looks over = search (rules, least_since, least_both)

-- What a pass costs on the way from a place to another.
pub pass_grows : (m from place : ℕ) → 1 ≤ m → from ≤ place → 40 * m * from + 40 * (place - from) ≤ 40 * m * place
pass_grows m from place some low = omega (arith, mul-le-mul_left (place - from) some, mul-le-mul_left m low, mul-sub m place from)
