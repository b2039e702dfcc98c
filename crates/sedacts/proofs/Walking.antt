-- The commands that are reached on a line that none of them touches.
use Rattle.std.proofs.Common.{◌≡◌, ℕ, suc, ◌<◌, ◌+◌, ◌≤◌, ◌⊎◌, inl, inr, zero, cond, get_or, Bool, true, false, List, length, Option, Some, None, subst, sym, ap, ◌∙◌, arith, add-one, refl}
use Rattle.std.specs.Prelude.{is_some, min, slice_get, ◌-◌}
use Rattle.std.specs.Option.{option_or, option_map}
use Rattle.std.proofs.lemmas.Option.{same_Some, slice_get_past}
use Rattle.sedscript.specs.declared.types.Address.{Address}
use Rattle.sedscript.specs.declared.types.Address.TheVariants.{Line, Last, Match}
use Rattle.sedscript.specs.declared.types.Action.{Action}
use Rattle.sedscript.specs.declared.types.Action.TheVariants.{Substitute}
use Rattle.sedscript.specs.declared.types.Command.{Command}
use Rattle.sedscript.specs.declared.substitution.Substitution.{Substitution}
use Rattle.sedscript.specs.Ranges.{AddressWithin, IsOneOf}
use Rattle.sedacts.specs.Idle.{Cleared, NeedWithin, need_by, need_of, need_of_action, need_of_address, need_of_substitution, behind, behind_by, place_at, need_at, judged_by, judged, Walked, NotesNeed, DescribesAll}
use Rattle.sedacts.specs.declared.idle.Need.{Need}
use Rattle.sedacts.specs.declared.idle.Need.TheVariants.{NoMatch, NotLast, OtherNumber}
use Rattle.sedacts.specs.declared.idle.Idle.{Idle}

pub place_zero : (cs : List Command) → place_at cs 0 ≡ 0
unfolding place_at
place_zero cs = refl

pub place_suc : (cs : List Command) (j : ℕ) → place_at cs (suc j) ≡ behind (slice_get cs (place_at cs j)) (place_at cs j)
unfolding place_at
place_suc cs j = refl

pub judged_zero : (cs : List Command) (ts : List Substitution) → judged cs ts 0 ≡ None
unfolding judged
judged_zero cs ts = refl

pub judged_suc : (cs : List Command) (ts : List Substitution) (j : ℕ) → judged cs ts (suc j) ≡ option_or (judged_by (need_at cs ts j)) (judged cs ts j)
unfolding judged
judged_suc cs ts j = refl

-- none of them is reached yet
pub walked_none : (cs : List Command) (ts : List Substitution) (i : Idle) → i.reached ≡ 0 → i.place ≡ 0 → i.judged ≡ None → Walked cs ts i
walked_none cs ts i none first unjudged = record {
  place = first ∙ sym (ap (place_at cs) none ∙ place_zero cs);
  needs = λ j less. absurd (omega arith);
  judged = unjudged ∙ sym (ap (judged cs ts) none ∙ judged_zero cs ts);
  last = λ asks. absurd (let less = asks.1 in omega arith);
  expressions = λ e asks. absurd (let less = asks.1 in omega arith);
}

-- a need that an address has is of an expression of the script
pub need_within : (n : ℕ) (a : Address) → AddressWithin n (Some a) → NeedWithin n (need_of_address a)
need_within n (Match (Some e)) h = h
need_within n other h = tt

-- of an address that asks for one line: by a number that is past it, or for as many lines as come before it
same_line : (first : Option Address) (k n : ℕ) → first ≡ Some (Line k) → first ≡ Some (Line n) → k ≡ n
same_line first k n is is' = let same : Line k ≡ Line n = same_Some (Line k) (Line n) (sym is ∙ is') in cc

pub asked_by_then : (first : Option Address) (k number most : ℕ) → first ≡ Some (Line k) → k ≤ number → (n : ℕ) → first ≡ Some (Line n) → (n ≤ number) ⊎ (number + most < n)
asked_by_then first k number most is before n is' = inl (subst (λ n. n ≤ number) (same_line first k n is is') before)

pub asked_past : (first : Option Address) (k number most few : ℕ) → first ≡ Some (Line k) → number < k → few ≡ min most (k - number - 1) → (n : ℕ) → first ≡ Some (Line n) → (n ≤ number) ⊎ (number + few < n)
asked_past first k number most few is after least n is' =
    let past : number + few < k = grind (arith, after, least) in
    inr (subst (λ n. number + few < n) (same_line first k n is is') past)

pub least_first : (few most other : ℕ) → few ≡ min most other → few ≤ most
least_first few most other least = grind (arith, least)

last_or_before : (j n : ℕ) → j < suc n → (j ≡ n) ⊎ (j < n)
last_or_before j n h = grind arith

-- one more is
pub walked_more : (cs : List Command) (ts : List Substitution) (a b : Idle) (c : Command) (need : Need) (place : ℕ) → Walked cs ts a → slice_get cs a.place ≡ Some c → Some need ≡ need_of ts (Some c) → place ≡ behind_by c.first c.action a.place →
    NotesNeed a b need place → Walked cs ts b
walked_more cs ts a b c need place w is needed behind_is n =
    let here : slice_get cs (place_at cs a.reached) ≡ Some c = ap (slice_get cs) (sym w.place) ∙ is in
    let need_is : need_at cs ts a.reached ≡ Some need = ap (need_of ts) here ∙ sym needed in
    let next : b.reached ≡ suc a.reached = n.reached ∙ add-one _ in
    record {
      place = n.next ∙ behind_is ∙ ap (λ k. behind_by c.first c.action k) w.place ∙ ap (λ o. behind o (place_at cs a.reached)) (sym here) ∙ sym (place_suc cs a.reached) ∙ ap (place_at cs) (sym next);
      needs = λ j less. elim (last_or_before j a.reached (omega arith)) [ inl same ↦ (rw same (ap is_some need_is)) | inr before ↦ w.needs j before ];
      judged = n.judged ∙ ap (option_or (judged_by (Some need))) w.judged ∙ ap (λ o. option_or (judged_by o) (judged cs ts a.reached)) (sym need_is) ∙ sym (judged_suc cs ts a.reached) ∙ ap (judged cs ts) (sym next);
      last = λ asks. elim (last_or_before asks.0 a.reached (let less = asks.1 in omega arith)) [ inl same ↦ n.asks (same_need NotLast asks.0 same asks.2) | inr before ↦ n.asked (w.last (asks.0, before, asks.2)) ];
      expressions = λ e asks. elim (last_or_before asks.0 a.reached (let less = asks.1 in omega arith)) [ inl same ↦ n.expression e (same_need (NoMatch e) asks.0 same asks.2) | inr before ↦ n.expressions e (w.expressions e (asks.0, before, asks.2)) ];
    }
  where
    same_need : (other : Need) (j : ℕ) → j ≡ a.reached → need_at cs ts j ≡ Some other → need ≡ other
    same_need other j same asked =
        let here : slice_get cs (place_at cs a.reached) ≡ Some c = ap (slice_get cs) (sym w.place) ∙ is in
        let need_is : need_at cs ts a.reached ≡ Some need = ap (need_of ts) here ∙ sym needed in
        same_Some need other (sym need_is ∙ ap (need_at cs ts) (sym same) ∙ asked)

-- the expression judged last is one of the script
pub one_more : (n : ℕ) (need : Need) (old new : Option ℕ) → NeedWithin n (Some need) → IsOneOf n old → new ≡ option_or (judged_by (Some need)) old → IsOneOf n new
one_more n (NoMatch e) old new within one is = subst (IsOneOf n) (sym is) within
one_more n other old new within one is = subst (IsOneOf n) (sym is) one

-- the script ends
pub walked_all : (cs : List Command) (ts : List Substitution) (i : Idle) → Walked cs ts i → length cs ≤ i.place → DescribesAll cs ts i
walked_all cs ts i w past = record {
  idle = record { needs = w.needs; ends = ap (slice_get cs) (sym w.place) ∙ slice_get_past cs i.place past };
  judged = w.judged;
  last = w.last;
  expressions = w.expressions;
}

need_of_number : (a : Address) (n : ℕ) → need_of_address a ≡ Some (OtherNumber n) → a ≡ Line n
need_of_number (Line m) n h = let same : m ≡ n = cc in ap (λ k. Line k) same
need_of_number Last n h = cc
need_of_number (Match None) n h = cc
need_of_number (Match (Some e)) n h = cc

action_number : (ts : List Substitution) (action : Action) (n : ℕ) → need_of_action ts action ≡ Some (OtherNumber n) → ⊥
action_number ts (Substitute k) n h = of_substitution (slice_get ts k) h
  where
    of_expression : (e : Option ℕ) → option_map (λ (k : ℕ). NoMatch k) e ≡ Some (OtherNumber n) → ⊥
    of_expression None h = cc
    of_expression (Some e) h = cc

    of_substitution : (o : Option Substitution) → need_of_substitution o ≡ Some (OtherNumber n) → ⊥
    of_substitution None h = cc
    of_substitution (Some t) h = of_expression t.expression h
action_number ts other n h = cc

-- a command that asks for a number has it as its first address
number_first : (ts : List Substitution) (first : Option Address) (negate : Bool) (action : Action) (n : ℕ) → cond negate None (need_by ts first action) ≡ Some (OtherNumber n) → first ≡ Some (Line n)
number_first ts first true action n h = cc
number_first ts (Some a) false action n h = ap (λ a. Some a) (need_of_number a n h)
number_first ts None false action n h = absurd (action_number ts action n h)

pub cleared_none : (cs : List Command) (ts : List Substitution) (ranges : List Bool) (number most : ℕ) → Cleared cs ts ranges number 0 0 most
cleared_none cs ts ranges number most = record {
  at = sym (place_zero cs);
  idle = λ j less. absurd (omega arith);
  clear = λ n asks. absurd (let less = asks.1 in omega arith);
}

pub fewer_clear : (n number more most : ℕ) → most ≤ more → (n ≤ number) ⊎ (number + more < n) → (n ≤ number) ⊎ (number + most < n)
fewer_clear n number more most h (inl before) = inl before
fewer_clear n number more most h (inr behind) = inr (omega arith)

pub cleared_more : (cs : List Command) (ts : List Substitution) (ranges : List Bool) (number j k place place' most more : ℕ) (c : Command) → Cleared cs ts ranges number j place more → k ≡ j + 1 → slice_get cs place ≡ Some c → get_or ranges place false ≡ false →
    place' ≡ behind_by c.first c.action place → most ≤ more → ((n : ℕ) → c.first ≡ Some (Line n) → (n ≤ number) ⊎ (number + most < n)) → Cleared cs ts ranges number k place' most
cleared_more cs ts ranges number j k place place' most more c w next is idle behind_is fewer clear =
    let here : slice_get cs (place_at cs j) ≡ Some c = ap (slice_get cs) (sym w.at) ∙ is in
    let suc_is : k ≡ suc j = next ∙ add-one j in
    record {
      at = behind_is ∙ ap (λ k. behind_by c.first c.action k) w.at ∙ ap (λ o. behind o (place_at cs j)) (sym here) ∙ sym (place_suc cs j) ∙ ap (place_at cs) (sym suc_is);
      idle = λ i less. elim (last_or_before i j (omega arith)) [ inl same ↦ (rw same (ap (λ p. get_or ranges p false) (sym w.at) ∙ idle)) | inr before ↦ w.idle i before ];
      clear = λ n asks. elim (last_or_before asks.0 j (let less = asks.1 in omega arith)) [ inl same ↦ clear n (number_first ts c.first c.negate c.action n (ap (need_of ts) (sym here) ∙ ap (need_at cs ts) (sym same) ∙ asks.2)) | inr before ↦ fewer_clear n number more most fewer (w.clear n (asks.0, before, asks.2)) ];
    }
