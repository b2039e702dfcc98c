-- The commands of a script that only edits its lines: one cycle of them, in two runs.
use Rattle.std.proofs.Common.{◌≡◌, ◌≢◌, ◌⊎◌, inl, inr, ℕ, zero, suc, ◌+◌, ◌-◌, ◌<◌, ◌≤◌, List, [], ◌∷◌, ◌++◌, Bool, true, false, Option, None, Some, refl, sym, ap, subst, ◌∙◌, arith}
use Rattle.std.specs.Prelude.{length, slice_get, slice_index_or, slice_set}
use Rattle.std.proofs.lemmas.List.{get_or-set_other, get_or-set_same, length-set}
use Rattle.sedscript.specs.declared.types.Command.{Command}
use Rattle.sedengine.specs.State.{Task, do_at, MachineState, Setting}
use Rattle.sedengine.specs.Move.{after, none_left, written}
use Rattle.sedengine.proofs.Moves.{after-add, written-add}
use Rattle.sededit.specs.Editing.{IsOutput}
use Rattle.scripts.proofs.Ample.{before_or_not, ended_stays}
use Rattle.scripts.proofs.Cycles.{Goes, goes_on}
use Rattle.examples.proofs.ComputedRun.{after_first as after_next}
use Rattle.scripts.proofs.Edits.{Edit, Test, block, delete, change, effect, IsEdit, Within, Leads, LeadsOne, one_goes, one_leads, edit_leads}

-- a run goes on from a state that its moves come to
pub record EndsThen (g : Setting) (now : MachineState) (before out : List (ℕ × ℕ)) : Type 0 where
  pub more : List (ℕ × ℕ)
  pub ends : IsOutput g now more
  pub all : out ≡ before ++ more

some_task : (task : Task) (rest : List Task) → (◌≡◌ {A = List Task} (task ∷ rest) []) → ⊥
some_task task rest e = cc

pub ends_then : {g : Setting} {s now : MachineState} {before out : List (ℕ × ℕ)} (task : Task) (rest : List Task) → Goes g s now before → now.tasks ≡ task ∷ rest → IsOutput g s out → EndsThen g now before out
ends_then {g = g} {s = s} {now = now} {before = before} {out = out} task rest goes has ends = elim (before_or_not g s ends.moves goes.moves) [
  | inl less ↦
      absurd (some_task task rest (sym has ∙ ap (λ (x : MachineState). x.tasks) (sym goes.is ∙ ended_stays g s ends.moves goes.moves ends.ended (omega arith)) ∙ ends.ended))
  | inr more ↦
      let left : ℕ = ends.moves - goes.moves in
      let at : goes.moves + left ≡ ends.moves = omega arith in
      let there : after g now left ≡ after g s ends.moves = ap (λ (x : MachineState). after g x left) (sym goes.is) ∙ sym (after-add g s goes.moves left) ∙ ap (after g s) at in
      let wrote : written g s ends.moves ≡ before ++ written g now left =
      ap (written g s) (sym at) ∙ written-add g s goes.moves left ∙ ap (λ (bs : List (ℕ × ℕ)). bs ++ written g (after g s goes.moves) left) goes.wrote ∙ ap (λ (x : MachineState). before ++ written g x left) goes.is in
      record {
        more = written g now left;
        ends = record { moves = left; ended = ap (λ (x : MachineState). x.tasks) there ∙ ends.ended; wrote = refl };
        all = sym ends.wrote ∙ wrote;
      }
]

-- ---- commands in two scripts

-- the edit with the numbers of another script
abbrev pub placed : (ℕ → ℕ) → Edit → Edit
placed to (block n) = block (to n)
placed to delete = delete
placed to (change f) = change f

abbrev pub placed_effect : (ℕ → ℕ) → Option (ℕ × List ℕ) → Option (ℕ × List ℕ)
placed_effect to None = None
placed_effect to (Some next) = Some (to next.0, next.1)

-- an edit stays within a script of so many commands, and its texts stay good ones
abbrev pub Fits : ℕ → (List ℕ → Type 0) → Edit → Type 0
Fits count Good (block n) = n ≤ count
Fits count Good delete = Unit {0}
Fits count Good (change f) = (w : List ℕ) → Good w → Good (f w)

abbrev FitsEffect : ℕ → (List ℕ → Type 0) → Option (ℕ × List ℕ) → Type 0
FitsEffect count Good None = Unit {0}
FitsEffect count Good (Some next) = (next.0 ≤ count) × Good next.1

-- lines of two runs that are alike: each is given by its number, and by those that are left
abbrev pub AreAlike : Type 1
AreAlike = ℕ → List (List ℕ) → ℕ → List (List ℕ) → Type 0

-- the command of this number in a script, and in another one at its place
pub record Both (Alike : AreAlike) (g g' : Setting) (count : ℕ) (to : ℕ → ℕ) (Good : List ℕ → Type 0) (k : ℕ) : Type 0 where
  pub here : Command
  pub there : Command
  pub on : Test
  pub edit : Edit
  pub is_here : slice_get g.commands k ≡ Some here
  pub is_there : slice_get g'.commands (to k) ≡ Some there
  pub makes_here : IsEdit g here on edit
  pub makes_there : IsEdit g' there on (placed to edit)
  pub fits : Fits count Good edit
  pub chooses_both : (active : Bool) (n n' : ℕ) (ls ls' : List (List ℕ)) (w : List ℕ) → Alike n ls n' ls' → on active n (none_left ls) w ≡ on active n' (none_left ls') w

-- what a cycle makes of a line: a text at the end of the script, or none
abbrev pub result_at : ℕ → Option (List ℕ) → Option (ℕ × List ℕ)
result_at count None = None
result_at count (Some w) = Some (count, w)

abbrev pub GoodResult : (List ℕ → Type 0) → Option (List ℕ) → Type 0
GoodResult Good None = Unit {0}
GoodResult Good (Some w) = Good w

-- the ranges of a script's commands are active as they are in another one at their places
pub record RangesAgree (to : ℕ → ℕ) (count : ℕ) (ra ra' : List Bool) : Type 0 where
  pub here : (k : ℕ) → k < count → k < length ra
  pub there : (k : ℕ) → k < count → to k < length ra'
  pub same : (k : ℕ) → k < count → slice_index_or ra' (to k) false ≡ slice_index_or ra k false

-- no range changed but those at these places
pub record Keeps (to : ℕ → ℕ) (count : ℕ) (old new : List Bool) : Type 0 where
  pub long : length new ≡ length old
  pub others : (j : ℕ) → ((k : ℕ) → k < count → j ≢ to k) → slice_index_or new j false ≡ slice_index_or old j false

pub keeps_matches : (to to' : ℕ → ℕ) (count count' : ℕ) (ra old new : List Bool) → RangesAgree to count ra old → Keeps to' count' old new → ((k j : ℕ) → k < count → j < count' → to k ≢ to' j) → RangesAgree to count ra new
keeps_matches to to' count count' ra old new m keeps apart = record {
  here = m.here;
  there = λ k less. let old_there = m.there k less in omega (arith, old_there, keeps.long);
  same = λ k less. keeps.others (to k) (λ j low. apart k j less low) ∙ m.same k less;
}

keeps_then : (to : ℕ → ℕ) (count : ℕ) (a b c : List Bool) → Keeps to count a b → Keeps to count b c → Keeps to count a c
keeps_then to count a b c one two = record { long = two.long ∙ one.long; others = λ j h. two.others j h ∙ one.others j h }

keeps_all : (to : ℕ → ℕ) (count : ℕ) (a : List Bool) → Keeps to count a a
keeps_all to count a = record { long = refl; others = λ j h. refl }

same_or_other : (n m : ℕ) → (n ≡ m) ⊎ (n ≢ m)
same_or_other zero zero = inl refl
same_or_other zero (suc m) = inr (λ e. omega (arith, e))
same_or_other (suc n) zero = inr (λ e. omega (arith, e))
same_or_other (suc n) (suc m) = elim (same_or_other n m) [ inl e ↦ inl (ap suc e) | inr other ↦ inr (λ e. other (omega (arith, e))) ]

matches_set : (to : ℕ → ℕ) (apart : (i j : ℕ) → to i ≡ to j → i ≡ j) (count : ℕ) (ra ra' : List Bool) (k : ℕ) (v : Bool) → k < count → RangesAgree to count ra ra' → RangesAgree to count (slice_set ra k v) (slice_set ra' (to k) v)
matches_set to apart count ra ra' k v less m = record {
  here = λ j low. let old = m.here j low in omega (arith, old, length-set ra k v);
  there = λ j low. let old = m.there j low in omega (arith, old, length-set ra' (to k) v);
  same = λ j low. elim (same_or_other j k) [
    | inl e ↦
        ap (λ i. slice_index_or (slice_set ra' (to k) v) (to i) false) e ∙ get_or-set_same ra' (to k) v false (m.there k less)
        ∙ sym (ap (λ i. slice_index_or (slice_set ra k v) i false) e ∙ get_or-set_same ra k v false (m.here k less))
    | inr other ↦
        get_or-set_other ra' (to k) (to j) v false (λ e. other (apart j k e)) ∙ m.same j low ∙ sym (get_or-set_other ra k j v false other)
  ];
}

keeps_set : (to : ℕ → ℕ) (count : ℕ) (ra' : List Bool) (k : ℕ) (v : Bool) → k < count → Keeps to count ra' (slice_set ra' (to k) v)
keeps_set to count ra' k v less = record { long = length-set ra' (to k) v; others = λ j h. get_or-set_other ra' (to k) j v false (h k less) }

-- the run of another script does the same
pub record Follows (g' : Setting) (m : ℕ) (rest : List (List ℕ)) (to : ℕ → ℕ) (count : ℕ) (ranges old : List Bool) (e : Option (ℕ × List ℕ)) (t : MachineState) : Type 0 where
  pub after : List Bool
  pub matches : RangesAgree to count ranges after
  pub keeps : Keeps to count old after
  pub leads : Leads g' m rest after e t

-- one cycle of both
pub record Cycle (Alike : AreAlike) (g g' : Setting) (count : ℕ) (to : ℕ → ℕ) (Good : List ℕ → Type 0) (n : ℕ) (ls : List (List ℕ)) (ra : List Bool) (k : ℕ) (w : List ℕ) (s : MachineState) : Type 0 where
  pub result : Option (List ℕ)
  pub good : GoodResult Good result
  pub ranges : List Bool
  pub here : Leads g n ls ranges (result_at count result) s
  pub there : (m : ℕ) (rest : List (List ℕ)) (ra' : List Bool) (t : MachineState) → Alike n ls m rest → RangesAgree to count ra ra' → Within m rest ra' (to k) w t →
      Follows g' m rest to count ranges ra' (result_at (to count) result) t

leads_on : (g : Setting) (s now : MachineState) (n : ℕ) (ls : List (List ℕ)) (ra : List Bool) (e : Option (ℕ × List ℕ)) → Goes g s now [] → Leads g n ls ra e now → Leads g n ls ra e s
leads_on g s now n ls ra e goes on = (on.0, goes_on goes on.1, on.2)

stays_there : (g : Setting) (s : MachineState) → Goes g s s []
unfolding after written
stays_there g s = record { moves = 0; is = refl; wrote = refl }

module _ (Alike : AreAlike) (g g' : Setting) (count : ℕ) (to : ℕ → ℕ) (next : (k : ℕ) → to k + 1 ≡ to (k + 1)) (apart : (i j : ℕ) → to i ≡ to j → i ≡ j) (Good : List ℕ → Type 0) (each : (k : ℕ) → k < count → Both Alike g g' count to Good k) where
  effect_placed : (yes : Bool) (edit : Edit) (k : ℕ) (w : List ℕ) → effect yes (placed to edit) (to k) w ≡ placed_effect to (effect yes edit k w)
  effect_placed true (block n) k w = ap (λ j. Some (j, w)) (next k)
  effect_placed false (block n) k w = refl
  effect_placed true delete k w = refl
  effect_placed false delete k w = ap (λ j. Some (j, w)) (next k)
  effect_placed true (change f) k w = ap (λ j. Some (j, f w)) (next k)
  effect_placed false (change f) k w = ap (λ j. Some (j, w)) (next k)

  effect_fits : (yes : Bool) (edit : Edit) (k : ℕ) (w : List ℕ) → k < count → Good w → Fits count Good edit → FitsEffect count Good (effect yes edit k w)
  effect_fits true (block n) k w less good fits = (omega arith, good)
  effect_fits false (block n) k w less good fits = (fits, good)
  effect_fits true delete k w less good fits = tt
  effect_fits false delete k w less good fits = (omega arith, good)
  effect_fits true (change f) k w less good fits = (omega arith, fits w good)
  effect_fits false (change f) k w less good fits = (omega arith, good)

  less_or_same : (k n : ℕ) → k ≤ n → (k < n) ⊎ (k ≡ n)
  less_or_same zero zero h = inr refl
  less_or_same zero (suc n) h = inl (omega arith)
  less_or_same (suc k) zero h = absurd (omega arith)
  less_or_same (suc k) (suc n) h = elim (less_or_same k n (omega arith)) [ inl less ↦ inl (omega arith) | inr same ↦ inr (ap suc same) ]

  -- at the end of the script
  at_its_end : (n : ℕ) (ls : List (List ℕ)) (ra : List Bool) (w : List ℕ) (s : MachineState) → Good w → Within n ls ra count w s → Cycle Alike g g' count to Good n ls ra count w s
  at_its_end n ls ra w s good at = record {
    result = Some w;
    good = good;
    ranges = ra;
    here = (s, stays_there g s, at);
    there = λ m rest ra' t alike matches is. record { after = ra'; matches = matches; keeps = keeps_all to count ra'; leads = (t, stays_there g' t, is) };
  }

  -- the cycle from a command on, of a run that ends after so many moves
  abbrev CycleWithin : ℕ → Type 0
  CycleWithin i = (n : ℕ) (ls : List (List ℕ)) (ra : List Bool) (k : ℕ) (w : List ℕ) (s : MachineState) → Within n ls ra k w s → k ≤ count → Good w → (after g s i).tasks ≡ [] → Cycle Alike g g' count to Good n ls ra k w s

  -- by the effect of the first command
  by_effect : (i : ℕ) → CycleWithin i → (n : ℕ) (ls : List (List ℕ)) (ra now : List Bool) (k : ℕ) (w : List ℕ) (s : MachineState) (e : Option (ℕ × List ℕ)) → FitsEffect count Good e → LeadsOne g n ls now e s → (after g s (suc i)).tasks ≡ [] →
      ((m : ℕ) (rest : List (List ℕ)) (ra' : List Bool) (t : MachineState) → Alike n ls m rest → RangesAgree to count ra ra' → Within m rest ra' (to k) w t → Follows g' m rest to count now ra' (placed_effect to e) t) →
      Cycle Alike g g' count to Good n ls ra k w s
  by_effect i more n ls ra now k w s None fits here ended there = record { result = None; good = tt; ranges = now; here = one_leads g n ls now None s here; there = there }
  by_effect i more n ls ra now k w s (Some next) fits here ended there =
      let c = more n ls now next.0 next.1 here.0.next here.3 fits.0 fits.1 (ap (λ (x : MachineState). x.tasks) (sym (after_next g s here.0 i here.1)) ∙ ended) in
      record {
        result = c.result;
        good = c.good;
        ranges = c.ranges;
        here = leads_on g s here.0.next n ls c.ranges (result_at count c.result) (one_goes g n ls now (Some next) s here) c.here;
        there = λ m rest ra' t alike matches at.
            let one = there m rest ra' t alike matches at in
            let two = c.there m rest one.after one.leads.0 alike one.matches one.leads.2 in
            record {
              after = two.after;
              matches = two.matches;
              keeps = keeps_then to count ra' one.after two.after one.keeps two.keeps;
              leads = leads_on g' t one.leads.0 m rest two.after (result_at (to count) c.result) one.leads.1 two.leads;
            };
      }

  not_ended : (n : ℕ) (ls : List (List ℕ)) (ra : List Bool) (k : ℕ) (w : List ℕ) (s : MachineState) → Within n ls ra k w s → s.tasks ≡ [] → ⊥
  not_ended n ls ra k w s at e = some_task (do_at k) [] (sym (ap (λ (x : MachineState). x.tasks) at.is) ∙ e)

  -- the other run at such a command
  follows : (n : ℕ) (ls : List (List ℕ)) (ra : List Bool) (k : ℕ) (w : List ℕ) (less : k < count) (choice : Bool × Bool) → (each k less).on (slice_index_or ra k false) n (none_left ls) w ≡ choice →
      (m : ℕ) (rest : List (List ℕ)) (ra' : List Bool) (t : MachineState) → Alike n ls m rest → RangesAgree to count ra ra' → Within m rest ra' (to k) w t →
      Follows g' m rest to count (slice_set ra k choice.1) ra' (placed_effect to (effect choice.0 (each k less).edit k w)) t
  follows n ls ra k w less choice is m rest ra' t alike matches at =
      let b = each k less in
      let leads = edit_leads g' b.there b.on (placed to b.edit) m rest ra' (to k) w t b.makes_there b.is_there at in
      let same : b.on (slice_index_or ra' (to k) false) m (none_left rest) w ≡ choice =
      ap (λ active. b.on active m (none_left rest) w) (matches.same k less) ∙ sym (b.chooses_both (slice_index_or ra k false) n m ls rest w alike) ∙ is in
      let by_choice : LeadsOne g' m rest (slice_set ra' (to k) choice.1) (effect choice.0 (placed to b.edit) (to k) w) t =
      subst (λ (x : Bool × Bool). LeadsOne g' m rest (slice_set ra' (to k) x.1) (effect x.0 (placed to b.edit) (to k) w) t) same leads in
      record {
        after = slice_set ra' (to k) choice.1;
        matches = matches_set to apart count ra ra' k choice.1 less matches;
        keeps = keeps_set to count ra' k choice.1 less;
        leads = subst (λ e. Leads g' m rest (slice_set ra' (to k) choice.1) e t) (effect_placed choice.0 b.edit k w)
            (one_leads g' m rest (slice_set ra' (to k) choice.1) (effect choice.0 (placed to b.edit) (to k) w) t by_choice);
      }

  pub cycle : (i : ℕ) → CycleWithin i
  unfolding after
  cycle zero n ls ra k w s at low good ended = absurd (not_ended n ls ra k w s at ended)
  cycle (suc i) n ls ra k w s at low good ended = elim (less_or_same k count low) [
    | inl less ↦
        let b = each k less in
        let choice : Bool × Bool = b.on (slice_index_or ra k false) n (none_left ls) w in
        by_effect i (cycle i) n ls ra (slice_set ra k choice.1) k w s (effect choice.0 b.edit k w) (effect_fits choice.0 b.edit k w less good b.fits)
        (edit_leads g b.here b.on b.edit n ls ra k w s b.makes_here b.is_here at) ended (follows n ls ra k w less choice refl)
    | inr same ↦
        subst (λ j. Cycle Alike g g' count to Good n ls ra j w s) (sym same) (at_its_end n ls ra w s good (subst (λ j. Within n ls ra j w s) same at))
  ]
