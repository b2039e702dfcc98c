-- One command that only edits its line: what it makes of it, in any run.
use Rattle.std.proofs.Common.{◌≡◌, ℕ, ◌+◌, List, [], ◌∷◌, map, Bool, true, false, Option, None, Some, refl, sym, ap, subst, ◌∙◌}
use Rattle.std.specs.Prelude.{slice_get, slice_index_or, slice_set, option_and_then}
use Rattle.sedscript.specs.declared.types.Command.{Command}
use Rattle.sedscript.specs.declared.types.Action.{Action}
use Rattle.sedscript.specs.declared.types.Action.TheVariants as action
use Rattle.sedscript.specs.declared.types.Simple.TheVariants as simple
use Rattle.sedscript.specs.declared.substitution.Substitution.{Substitution}
use Rattle.sedengine.specs.State.{MachineState, Move, Setting}
use Rattle.sedengine.specs.Substitute.{Occurrence, replaced_from}
use Rattle.sedengine.specs.Select.{Selection, selects, stands_for}
use Rattle.sedengine.specs.Move.{acts, in_table, none_left, writes_text_at, next_move, goes_past, reach, replaces, substitutes, writing}
use Rattle.sedengine.specs.Choose.{performs}
use Rattle.scripts.proofs.Cycles.{Goes, goes_one, between, within, deleted}
use Rattle.sedengine.specs.SubstituteCalls.{to_replace_in}

-- what a command does to the line: a block that ends before a command, `d`, or another text
pub data Edit : Type 0 where
  block : ℕ → Edit
  delete : Edit
  change : (List ℕ → List ℕ) → Edit

-- the command that comes next, with the text, or none where the line is deleted
abbrev pub effect : Bool → Edit → ℕ → List ℕ → Option (ℕ × List ℕ)
effect true (block n) k w = Some (k + 1, w)
effect false (block n) k w = Some (n, w)
effect true delete k w = None
effect false delete k w = Some (k + 1, w)
effect true (change f) k w = Some (k + 1, f w)
effect false (change f) k w = Some (k + 1, w)

-- the occurrences replaced, if there are any
abbrev pub with_found : Substitution → List ℕ → List Occurrence → List ℕ
with_found t w [] = w
with_found t w (m ∷ ms) = replaced_from w t.replacement 0 (m ∷ ms)

-- which lines a command is for: by whether its range is active, a line's number, whether it is the last one, and its text. With it
-- comes whether the range is active then
abbrev pub Test : Type 0
Test = Bool → ℕ → Bool → List ℕ → Bool × Bool

-- the addresses of a command choose this
pub record Chosen (g : Setting) (c : Command) (active : Bool) (n : ℕ) (last : Bool) (w : List ℕ) (u : Option ℕ) (choice : Bool × Bool) : Type 0 where
  pub end : Bool
  pub used : Option ℕ
  pub is : selects (record { number = n; last = last; pattern = w; finds = g.finds; used = u }) active c ≡ Some (record { yes = choice.0; end = end; active = choice.1; used = used })

abbrev pub Replaces : Setting → Option Substitution → (List ℕ → List ℕ) → Type 0
Replaces g None f = ⊥
Replaces g (Some t) f = (e : ℕ) × (t.expression ≡ Some e) × (t.print ≡ false) × (t.file ≡ None) × ((w : List ℕ) → with_found t w (to_replace_in g t e w) ≡ f w)

abbrev pub Makes : Setting → Action → Edit → Type 0
Makes g (action.Block n) (block m) = n ≡ m
Makes g (action.Plain simple.Delete) delete = Unit {0}
Makes g (action.Substitute k) (change f) = Replaces g (slice_get g.substitutions k) f
Makes g (action.Transliterate k) (change f) = (w : List ℕ) → map (in_table (slice_get g.tables k)) w ≡ f w
Makes g a edit = ⊥

-- the command makes this edit of the lines that the test chooses
pub record IsEdit (g : Setting) (c : Command) (on : Test) (edit : Edit) : Type 0 where
  pub chooses : (active : Bool) (n : ℕ) (last : Bool) (w : List ℕ) (u : Option ℕ) → Chosen g c active n last w u (on active n last w)
  pub makes : Makes g c.action edit

-- ---- states after so many lines, whatever the rest of them is

pub record Between (n : ℕ) (ls : List (List ℕ)) (ranges : List Bool) (s : MachineState) : Type 0 where
  pub hold : List ℕ
  pub replaced : Bool
  pub used : Option ℕ
  pub turns : ℕ
  pub is : s ≡ between ls n hold replaced ranges used turns

pub record Within (n : ℕ) (ls : List (List ℕ)) (ranges : List Bool) (k : ℕ) (w : List ℕ) (s : MachineState) : Type 0 where
  pub hold : List ℕ
  pub replaced : Bool
  pub used : Option ℕ
  pub turns : ℕ
  pub is : s ≡ within ls n w hold replaced ranges used k turns

pub record Deleted (n : ℕ) (ls : List (List ℕ)) (ranges : List Bool) (s : MachineState) : Type 0 where
  pub hold : List ℕ
  pub replaced : Bool
  pub used : Option ℕ
  pub turns : ℕ
  pub is : s ≡ deleted ls n hold replaced ranges used turns

-- the state after such an effect
abbrev pub Comes : ℕ → List (List ℕ) → List Bool → Option (ℕ × List ℕ) → MachineState → Type 0
Comes n ls ranges None s = Deleted n ls ranges s
Comes n ls ranges (Some next) s = Within n ls ranges next.0 next.1 s

abbrev Does : ℕ → List (List ℕ) → List Bool → Option (ℕ × List ℕ) → Option Move → Type 0
Does n ls ranges e None = ⊥
Does n ls ranges e (Some m) = (m.writes ≡ []) × Comes n ls ranges e m.next

-- the state comes to one after such an effect, and nothing is written
abbrev pub Leads : Setting → ℕ → List (List ℕ) → List Bool → Option (ℕ × List ℕ) → MachineState → Type 0
Leads g n ls ranges e s = (now : MachineState) × Goes g s now [] × Comes n ls ranges e now

-- it does so by one move
abbrev pub LeadsOne : Setting → ℕ → List (List ℕ) → List Bool → Option (ℕ × List ℕ) → MachineState → Type 0
LeadsOne g n ls ranges e s = (m : Move) × (next_move g s ≡ Some m) × (m.writes ≡ []) × Comes n ls ranges e m.next

pub one_goes : (g : Setting) (n : ℕ) (ls : List (List ℕ)) (ranges : List Bool) (e : Option (ℕ × List ℕ)) (s : MachineState) (h : LeadsOne g n ls ranges e s) → Goes g s h.0.next []
one_goes g n ls ranges e s h = goes_one (h.1 ∙ ap (λ (bytes : List (ℕ × ℕ)). writing bytes h.0.next) h.2)

abbrev pub one_leads : (g : Setting) (n : ℕ) (ls : List (List ℕ)) (ranges : List Bool) (e : Option (ℕ × List ℕ)) (s : MachineState) → LeadsOne g n ls ranges e s → Leads g n ls ranges e s
one_leads g n ls ranges e s h = (h.0.next, one_goes g n ls ranges e s h, h.3)

leads_to : (g : Setting) (n : ℕ) (ls : List (List ℕ)) (ranges : List Bool) (e : Option (ℕ × List ℕ)) (s : MachineState) (o : Option Move) → next_move g s ≡ o → Does n ls ranges e o → LeadsOne g n ls ranges e s
leads_to g n ls ranges e s None is does = absurd does
leads_to g n ls ranges e s (Some m) is does = (m, is, does.0, does.1)

module _ (g : Setting) (ls : List (List ℕ)) (n : ℕ) (h : List ℕ) (k : ℕ) where
  -- where a command that was reached leads on, with the ranges as they are then
  module _ (ra : List Bool) (tu : ℕ) where
    abbrev here : List ℕ → Bool → Option ℕ → MachineState
    here w r u = within ls n w h r ra u (k + 1) tu

    replaces_so : (t : Substitution) (ms : List Occurrence) (w : List ℕ) (r : Bool) (u : Option ℕ) → t.print ≡ false → t.file ≡ None →
        Does n ls ra (Some (k + 1, with_found t w ms)) (replaces (here w r u) t ms)
    replaces_so t [] w r u a b = (refl, record { hold = h; replaced = r; used = u; turns = tu; is = refl })
    replaces_so t (m ∷ ms) w r u a b = (rw (a, b) refl, record { hold = h; replaced = true; used = u; turns = tu; is = refl })

    substitutes_so : (o : Option Substitution) (f : List ℕ → List ℕ) (w : List ℕ) (r : Bool) (u : Option ℕ) → Replaces g o f → Does n ls ra (Some (k + 1, f w)) (substitutes g (here w r u) o)
    substitutes_so None f w r u is = absurd is
    substitutes_so (Some t) f w r u is =
        let e : ℕ = is.0 in
        let done = replaces_so t (to_replace_in g t e w) w r (Some e) is.2 is.3 in
        subst (λ (x : Option ℕ). Does n ls ra (Some (k + 1, f w)) (option_and_then (λ e. replaces (record (here w r u) { used = Some e }) t (to_replace_in g t e w)) (stands_for x u))) (sym is.1)
        (subst (λ (v : List ℕ). Does n ls ra (Some (k + 1, v)) (replaces (here w r (Some e)) t (to_replace_in g t e w))) (is.4 w) done)

    acts_so : (shows : Bool) (a : Action) (edit : Edit) (w : List ℕ) (r : Bool) (u : Option ℕ) → Makes g a edit → Does n ls ra (effect true edit k w) (acts g (here w r u) shows a)
    acts_so shows (action.Block i) (block m) w r u is = (refl, record { hold = h; replaced = r; used = u; turns = tu; is = refl })
    acts_so shows (action.Plain simple.Delete) delete w r u is = (refl, record { hold = h; replaced = r; used = u; turns = tu; is = refl })
    acts_so shows (action.Substitute i) (change f) w r u is = substitutes_so (slice_get g.substitutions i) f w r u is
    acts_so shows (action.Transliterate i) (change f) w r u is =
        (refl, subst (λ (v : List ℕ). Within n ls ra (k + 1) v (here (map (in_table (slice_get g.tables i)) w) r u)) (is w) (record { hold = h; replaced = r; used = u; turns = tu; is = refl }))
    acts_so shows a edit w r u is = absurd is

    passes_so : (a : Action) (edit : Edit) (w : List ℕ) (r : Bool) (u : Option ℕ) → Makes g a edit → Does n ls ra (effect false edit k w) (goes_past (here w r u) a)
    passes_so (action.Block i) (block m) w r u is = (refl, record { hold = h; replaced = r; used = u; turns = tu; is = ap (λ j. within ls n w h r ra u j tu) is })
    passes_so (action.Plain simple.Delete) delete w r u is = (refl, record { hold = h; replaced = r; used = u; turns = tu; is = refl })
    passes_so (action.Substitute i) (change f) w r u is = (refl, record { hold = h; replaced = r; used = u; turns = tu; is = refl })
    passes_so (action.Transliterate i) (change f) w r u is = (refl, record { hold = h; replaced = r; used = u; turns = tu; is = refl })
    passes_so a edit w r u is = absurd is

  abbrev at_it : List ℕ → Bool → List Bool → Option ℕ → ℕ → MachineState
  at_it w r ra u tu = within ls n w h r ra u k tu

  performs_so : (c : Command) (edit : Edit) (w : List ℕ) (r : Bool) (ra : List Bool) (u : Option ℕ) (tu : ℕ) (yes end active : Bool) (v : Option ℕ) → Makes g c.action edit →
      Does n ls (slice_set ra k active) (effect yes edit k w) (performs g (at_it w r ra u tu) k c (record { yes = yes; end = end; active = active; used = v }))
  performs_so c edit w r ra u tu true end active v is = acts_so (slice_set ra k active) (tu + 1) (writes_text_at c end) c.action edit w r v is
  performs_so c edit w r ra u tu false end active v is = passes_so (slice_set ra k active) (tu + 1) c.action edit w r v is

  reach_so : (c : Command) (edit : Edit) (w : List ℕ) (r : Bool) (ra : List Bool) (u : Option ℕ) (tu : ℕ) (choice : Bool × Bool) → Chosen g c (slice_index_or ra k false) n (none_left ls) w u choice → Makes g c.action edit →
      Does n ls (slice_set ra k choice.1) (effect choice.0 edit k w) (reach g (at_it w r ra u tu) k (Some c))
  reach_so c edit w r ra u tu choice chosen is =
      subst (λ (o : Option Selection). Does n ls (slice_set ra k choice.1) (effect choice.0 edit k w) (option_and_then (λ choice. performs g (at_it w r ra u tu) k c choice) o)) (sym chosen.is)
      (performs_so c edit w r ra u tu choice.0 chosen.end choice.1 chosen.used is)

-- a state that reaches such a command comes to one after its effect
pub edit_leads : (g : Setting) (c : Command) (on : Test) (edit : Edit) (n : ℕ) (ls : List (List ℕ)) (ra : List Bool) (k : ℕ) (w : List ℕ) (s : MachineState) → IsEdit g c on edit → slice_get g.commands k ≡ Some c → Within n ls ra k w s →
    LeadsOne g n ls (slice_set ra k (on (slice_index_or ra k false) n (none_left ls) w).1) (effect (on (slice_index_or ra k false) n (none_left ls) w).0 edit k w) s
unfolding next_move
edit_leads g c on edit n ls ra k w s is there at =
    let explicit : MachineState = within ls n w at.hold at.replaced ra at.used k at.turns in
    let choice : Bool × Bool = on (slice_index_or ra k false) n (none_left ls) w in
    let does = reach_so g ls n at.hold k c edit w at.replaced ra at.used at.turns choice (is.chooses (slice_index_or ra k false) n (none_left ls) w at.used) is.makes in
    let moved : next_move g explicit ≡ reach g explicit k (Some c) = ap (reach g explicit k) there in
    subst (LeadsOne g n ls (slice_set ra k choice.1) (effect choice.0 edit k w)) (sym at.is) (leads_to g n ls (slice_set ra k choice.1) (effect choice.0 edit k w) explicit (reach g explicit k (Some c)) moved does)
