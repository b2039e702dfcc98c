-- Where the commands of two scripts that only edit their lines come in the script of both, and what they make there.
use Rattle.std.proofs.Common.{◌≡◌, ℕ, zero, suc, ◌+◌, ◌<◌, List, [], ◌∷◌, ◌++◌, length, length-append, map, Bool, true, false, not, ◌&&◌, Option, None, Some, refl, sym, ap, ap₂, subst, ◌∙◌, zero-add, arith}
use Rattle.std.specs.Prelude.{nat_eq, nat_lt, slice_get, slice_index_or, is_some, is_none, if◌then◌else◌}
use Rattle.std.specs.List.{list_all, list_any}
use Rattle.std.specs.Option.{option_map, option_and_then, option_map_or}
use Rattle.std.proofs.Math.Path.{fun_ext}
use Rattle.std.proofs.lemmas.Bool.Decides.{nat_tests}
use Rattle.std.proofs.lemmas.List.{length-map}
use Rattle.std.proofs.lemmas.Option.{slice_get-map, slice_get_past}
use Rattle.sedspace.specs.Lines.{split_lines}
use Rattle.sedre.specs.Tree.{WrittenExpression, expression_tree}
use Rattle.sedscript.specs.declared.types.Address.{Address}
use Rattle.sedscript.specs.declared.types.Address.TheVariants.{Match, Line, Last}
use Rattle.sedscript.specs.declared.types.Command.{Command}
use Rattle.sedscript.specs.declared.types.Action.{Action}
use Rattle.sedscript.specs.declared.types.Action.TheVariants.{Block, Plain, Substitute, Transliterate}
use Rattle.sedscript.specs.declared.types.Simple.TheVariants.{Delete}
use Rattle.sedscript.specs.declared.substitution.Substitution.{Substitution}
use Rattle.sedscript.specs.Program.{Program}
use Rattle.sedengine.specs.State.{Setting, search_for, setting_of}
use Rattle.sedengine.specs.Select.{CurrentLine, Selection, answer, ends_at_once, of_addresses, on_active, on_idle, selects}
use Rattle.sedengine.specs.Move.{none_left, in_table, start, to_sink}
use Rattle.sedengine.specs.Substitute.{Occurrence, each_occurrence, to_replace}
use Rattle.sedengine.proofs.Writing.{slice_get-append_add}
use Rattle.examples.proofs.ComputedEnds.{both}
use Rattle.scripts.specs.Edited.{RunsTo}
use Rattle.scripts.specs.InTurn.{CountsBefore, BreaksNoLine, EachOnlyEdits, action_behind, address_behind, all_before, asks_own, command_behind, edits_line, in_turn, is_break, is_own, only_edits, replaces_only, sink_behind, substitution_behind}
use Rattle.scripts.proofs.Truth.{not_so}
use Rattle.scripts.proofs.LongerText.{in_front}
use Rattle.scripts.proofs.NoneBefore.{none_before, same_command, same_substitution}
use Rattle.scripts.proofs.Edits.{Test, Between, Chosen, Edit, Makes, Replaces, block, change, delete, with_found}
use Rattle.scripts.proofs.EditedLines.{AreAlike, Both, Fits, RangesAgree, placed}
use Rattle.scripts.proofs.OneAfterOther.{AnyLines, SameLines, in_turn_run}
use Rattle.scripts.proofs.Unbroken.{Unbroken, unbroken_map, unbroken_replaced}
use Rattle.sedengine.specs.SubstituteCalls.{to_replace_in}
use Rattle.sedmatch.specs.Matching.{leftmost_longest}

-- ---- places in lists

there_is : {A : Type 0} (o : Option A) → is_some o ≡ true → (x : A) × (o ≡ Some x)
there_is None h = absurd cc
there_is (Some x) h = (x, refl)

is_none_so : {A : Type 0} (o : Option A) → is_none o ≡ true → o ≡ None
is_none_so None h = refl
is_none_so (Some x) h = absurd cc

all_there : {A : Type 0} (f : A → Bool) (xs : List A) (k : ℕ) (x : A) → list_all f xs ≡ true → slice_get xs k ≡ Some x → f x ≡ true
all_there f [] zero x all h = absurd cc
all_there f [] (suc k) x all h = absurd cc
all_there f (y ∷ xs) zero x all h = let same : y ≡ x = cc in subst (λ y. f y ≡ true) same (both (f y) (list_all f xs) all).0
all_there f (y ∷ xs) (suc k) x all h = all_there f xs k x (both (f y) (list_all f xs) all).1 h

found_below : {A : Type 0} (xs : List A) (k : ℕ) → k < length xs → (x : A) × (slice_get xs k ≡ Some x)
found_below [] k h = absurd (omega arith)
found_below (x ∷ xs) zero h = (x, refl)
found_below (x ∷ xs) (suc k) h = found_below xs k (omega arith)

behind_all : {A : Type 0} (f : A → A) (xs ys : List A) (k : ℕ) (y : A) → slice_get ys k ≡ Some y → slice_get (xs ++ map f ys) (length xs + k) ≡ Some (f y)
behind_all f xs ys k y h = slice_get-append_add xs (map f ys) k ∙ slice_get-map f ys k ∙ ap (option_map f) h

-- ---- what commands make

abbrev by_expression : Setting → Substitution → Option ℕ → List ℕ → List ℕ
by_expression g t None w = w
by_expression g t (Some e) w = with_found t w (to_replace_in g t e w)

abbrev substituted_by : Setting → Option Substitution → List ℕ → List ℕ
substituted_by g None w = w
substituted_by g (Some t) w = by_expression g t t.expression w

abbrev edit_of : Setting → Action → Edit
edit_of g (Block n) = block n
edit_of g (Plain Delete) = delete
edit_of g (Substitute k) = change (substituted_by g (slice_get g.substitutions k))
edit_of g (Transliterate k) = change (λ w. map (in_table (slice_get g.tables k)) w)
edit_of g other = delete

-- whether a line matches an address, and what a range chooses: whether the line, and whether it is active then
abbrev judged : (ℕ → List ℕ → Bool) → Address → ℕ → Bool → List ℕ → Bool
judged finds (Line i) n last w = nat_eq i n
judged finds Last n last w = last
judged finds (Match (Some e)) n last w = finds e w
judged finds (Match None) n last w = false

abbrev idle : Bool → Bool → Bool × Bool
idle true at_once = (true, not at_once)
idle false at_once = (false, false)

abbrev ranged : (ℕ → List ℕ → Bool) → Address → Address → Test
ranged finds a b false n last w = idle (judged finds a n last w) (ends_at_once n b)
ranged finds a (Line i) true n last w = if nat_lt n i then (true, true) else (if nat_eq n i then (true, false) else idle (judged finds a n last w) (ends_at_once n (Line i)))
ranged finds a Last true n last w = (true, not last)
ranged finds a (Match e) true n last w = (true, not (judged finds (Match e) n last w))

abbrev choice_of : (ℕ → List ℕ → Bool) → Option Address → Option Address → Test
choice_of finds None second active n last w = (true, active)
choice_of finds (Some a) None active n last w = (judged finds a n last w, active)
choice_of finds (Some a) (Some b) active n last w = ranged finds a b active n last w

abbrev with_bang : Bool → Bool × Bool → Bool × Bool
with_bang negate choice = (if negate then not choice.0 else choice.0, choice.1)

abbrev on_of : (ℕ → List ℕ → Bool) → Command → Test
on_of finds c active n last w = with_bang c.negate (choice_of finds c.first c.second active n last w)

-- an answer for addresses is this choice
abbrev Selected : Option Selection → Bool × Bool → Type 0
Selected o choice = (e : Bool) × (v : Option ℕ) × (o ≡ Some (record { yes = choice.0; end = e; active = choice.1; used = v }))

answer_so : (counts : Bool) (p : Program) (c : CurrentLine) (a : Address) → asks_own counts p (Some a) ≡ true → (v : Option ℕ) × (answer c a ≡ Some (record { yes = judged c.finds a c.number c.last c.pattern; used = v }))
answer_so counts p c (Line i) h = (c.used, refl)
answer_so counts p c Last h = (c.used, refl)
answer_so counts p c (Match (Some e)) h = (Some e, refl)
answer_so counts p c (Match None) h = absurd cc

idle_by : (c : CurrentLine) (a b : Address) (yes : Bool) (v : Option ℕ) → answer c a ≡ Some (record { yes = yes; used = v }) → Selected (on_idle c a b) (idle yes (ends_at_once c.number b))
idle_by c a b true v e = (ends_at_once c.number b, v, rw e refl)
idle_by c a b false v e = (false, v, rw e refl)

idle_so : (counts : Bool) (p : Program) (c : CurrentLine) (a b : Address) → asks_own counts p (Some a) ≡ true → Selected (on_idle c a b) (idle (judged c.finds a c.number c.last c.pattern) (ends_at_once c.number b))
idle_so counts p c a b h = let x = answer_so counts p c a h in idle_by c a b (judged c.finds a c.number c.last c.pattern) x.0 x.1

active_so : (counts : Bool) (p : Program) (c : CurrentLine) (a b : Address) → asks_own counts p (Some a) ≡ true → asks_own counts p (Some b) ≡ true → Selected (on_active c a b) (ranged c.finds a b true c.number c.last c.pattern)
active_so counts p c a (Line i) h k = by_less (nat_lt c.number i) (nat_eq c.number i) (idle_so counts p c a (Line i) h)
  where
    by_less : (less same : Bool) → Selected (on_idle c a (Line i)) (idle (judged c.finds a c.number c.last c.pattern) (ends_at_once c.number (Line i))) →
        Selected (if less then Some (record { yes = true; end = false; active = true; used = c.used }) else (if same then Some (record { yes = true; end = true; active = false; used = c.used }) else on_idle c a (Line i)))
        (if less then (true, true) else (if same then (true, false) else idle (judged c.finds a c.number c.last c.pattern) (ends_at_once c.number (Line i))))
    by_less true same is = (false, c.used, refl)
    by_less false true is = (true, c.used, refl)
    by_less false false is = is
active_so counts p c a Last h k = (c.last, c.used, refl)
active_so counts p c a (Match (Some e)) h k = (c.finds e c.pattern, Some e, refl)
active_so counts p c a (Match None) h k = absurd cc

addresses_so : (counts : Bool) (p : Program) (c : CurrentLine) (active : Bool) (first second : Option Address) → asks_own counts p first ≡ true → asks_own counts p second ≡ true →
    Selected (of_addresses c active first second) (choice_of c.finds first second active c.number c.last c.pattern)
addresses_so counts p c active None second h k = (false, c.used, refl)
addresses_so counts p c active (Some a) None h k = let x = answer_so counts p c a h in (false, x.0, rw x.1 refl)
addresses_so counts p c true (Some a) (Some b) h k = active_so counts p c a b h k
addresses_so counts p c false (Some a) (Some b) h k = idle_so counts p c a b h

chosen_so : (counts : Bool) (p : Program) (g : Setting) (c : Command) (active : Bool) (n : ℕ) (last : Bool) (w : List ℕ) (u : Option ℕ) → asks_own counts p c.first ≡ true → asks_own counts p c.second ≡ true →
    Chosen g c active n last w u (on_of g.finds c active n last w)
unfolding selects
chosen_so counts p g c active n last w u h k =
    let x = addresses_so counts p (record { number = n; last = last; pattern = w; finds = g.finds; used = u }) active c.first c.second h k in record { end = x.0; used = x.1; is = rw x.2 refl }

-- where lines are alike as far as a script counts them, its commands choose them alike
abbrev AlikeIn : Bool → AreAlike
AlikeIn true = SameLines
AlikeIn false = AnyLines

alike_choice : (p : Program) (finds : ℕ → List ℕ → Bool) (first second : Option Address) → asks_own false p first ≡ true → asks_own false p second ≡ true →
    (active : Bool) (n n' : ℕ) (last last' : Bool) (w : List ℕ) → choice_of finds first second active n last w ≡ choice_of finds first second active n' last' w
alike_choice p finds None second h k active n n' last last' w = refl
alike_choice p finds (Some (Match (Some e))) None h k active n n' last last' w = refl
alike_choice p finds (Some (Match (Some e))) (Some (Match (Some f))) h k true n n' last last' w = refl
alike_choice p finds (Some (Match (Some e))) (Some (Match (Some f))) h k false n n' last last' w = refl
alike_choice p finds (Some (Match (Some e))) (Some (Match None)) h k active n n' last last' w = absurd cc
alike_choice p finds (Some (Match (Some e))) (Some (Line i)) h k active n n' last last' w = absurd cc
alike_choice p finds (Some (Match (Some e))) (Some Last) h k active n n' last last' w = absurd cc
alike_choice p finds (Some (Match None)) second h k active n n' last last' w = absurd cc
alike_choice p finds (Some (Line i)) second h k active n n' last last' w = absurd cc
alike_choice p finds (Some Last) second h k active n n' last last' w = absurd cc

chooses_alike : (counts : Bool) (p : Program) (finds : ℕ → List ℕ → Bool) (c : Command) → asks_own counts p c.first ≡ true → asks_own counts p c.second ≡ true →
    (active : Bool) (n n' : ℕ) (ls ls' : List (List ℕ)) (w : List ℕ) → AlikeIn counts n ls n' ls' → on_of finds c active n (none_left ls) w ≡ on_of finds c active n' (none_left ls') w
chooses_alike true p finds c h k active n n' ls ls' w alike = ap₂ (λ n ls. on_of finds c active n (none_left ls) w) (sym alike.0) (sym alike.1)
chooses_alike false p finds c h k active n n' ls ls' w alike = ap (with_bang c.negate) (alike_choice p finds c.first c.second h k active n n' (none_left ls) (none_left ls') w)

-- what is in a script is in another one, behind so much
record Placed (p r : Program) (b : CountsBefore) : Type 0 where
  commands : (k : ℕ) (c : Command) (counts : Bool) → slice_get p.commands k ≡ Some c → only_edits counts p c ≡ true → slice_get r.commands (b.commands + k) ≡ Some (command_behind b c)
  expressions : (e : ℕ) (x : WrittenExpression) → slice_get p.expressions e ≡ Some x → slice_get r.expressions (b.expressions + e) ≡ Some x
  substitutions : (k : ℕ) (t : Substitution) → slice_get p.substitutions k ≡ Some t → slice_get r.substitutions (b.substitutions + k) ≡ Some (substitution_behind b t)
  tables : (k : ℕ) (x : List ℕ) → slice_get p.tables k ≡ Some x → slice_get r.tables (b.tables + k) ≡ Some x

-- the three tests of a command that only edits
tests : (counts : Bool) (p : Program) (c : Command) → only_edits counts p c ≡ true → (asks_own counts p c.first ≡ true) × (asks_own counts p c.second ≡ true) × (edits_line p c.action ≡ true)
tests counts p c h =
    let one = both (asks_own counts p c.first) (asks_own counts p c.second && edits_line p c.action) h in
    let two = both (asks_own counts p c.second) (edits_line p c.action) one.1 in (one.0, two.0, two.1)

-- and those of a substitution
is_plain : (p : Program) (t : Substitution) → replaces_only p (Some t) ≡ true → (e : ℕ) × (x : WrittenExpression) × (t.expression ≡ Some e) × (slice_get p.expressions e ≡ Some x) × (t.print ≡ false) × (t.file ≡ None)
is_plain p t h =
    let one = both (is_own p t.expression) (not t.print && is_none t.file) h in
    let two = both (not t.print) (is_none t.file) one.1 in
    let e = own t.expression one.0 in
    (e.0, e.1, e.2, e.3, not_so t.print two.0, is_none_so t.file two.1)
  where
    own : (o : Option ℕ) → is_own p o ≡ true → (e : ℕ) × (x : WrittenExpression) × (o ≡ Some e) × (slice_get p.expressions e ≡ Some x)
    own None h = absurd cc
    own (Some e) h = let x = there_is (slice_get p.expressions e) h in (e, x.0, refl, x.1)

module _ (p : Program) (files : ℕ → List ℕ) where
  abbrev g1 : Setting
  g1 = setting_of p files

  replaces_here : (o : Option Substitution) → replaces_only p o ≡ true → Replaces g1 o (substituted_by g1 o)
  replaces_here None h = absurd cc
  replaces_here (Some t) h = let s = is_plain p t h in (s.0, s.2, s.4, s.5, λ w. ap (λ e. by_expression g1 t e w) (sym s.2))

  makes_here : (a : Action) → edits_line p a ≡ true → Makes g1 a (edit_of g1 a)
  makes_here (Block n) h = refl
  makes_here (Plain Delete) h = tt
  makes_here (Substitute k) h = replaces_here (slice_get p.substitutions k) h
  makes_here (Transliterate k) h = λ w. refl
  makes_here other h = absurd cc

  module _ (r : Program) (b : CountsBefore) (is : Placed p r b) where
    abbrev g : Setting
    g = setting_of r files

    abbrev to : ℕ → ℕ
    to k = b.commands + k

    same_finds : (e : ℕ) (x : WrittenExpression) (w : List ℕ) → slice_get p.expressions e ≡ Some x → g.finds (b.expressions + e) w ≡ g1.finds e w
    same_finds e x w h = ap (λ (o : Option WrittenExpression). option_map_or (λ e. is_some (leftmost_longest (expression_tree e) w 0)) o false) (is.expressions e x h ∙ sym h)

    same_search : (e : ℕ) (x : WrittenExpression) (w : List ℕ) → slice_get p.expressions e ≡ Some x → g.search (b.expressions + e) w ≡ g1.search e w
    same_search e x w h = ap (λ (o : Option WrittenExpression). λ (from : ℕ). option_and_then (λ e. search_for e w from) o) (is.expressions e x h ∙ sym h)

    -- what it chooses there
    address_there : (counts : Bool) (a : Option Address) → asks_own counts p a ≡ true → asks_own counts r (address_behind b a) ≡ true
    address_there counts None h = h
    address_there counts (Some (Match (Some e))) h = let x = there_is (slice_get p.expressions e) h in ap is_some (is.expressions e x.0 x.1)
    address_there counts (Some (Match None)) h = absurd cc
    address_there counts (Some (Line i)) h = h
    address_there counts (Some Last) h = h

    -- an address behind others, and what is judged by it
    abbrev moved : Address → Address
    moved (Match (Some e)) = Match (Some (b.expressions + e))
    moved (Match None) = Match None
    moved (Line i) = Line i
    moved Last = Last

    judged_there : (counts : Bool) (a : Address) (n : ℕ) (last : Bool) (w : List ℕ) → asks_own counts p (Some a) ≡ true → judged g.finds (moved a) n last w ≡ judged g1.finds a n last w
    judged_there counts (Match (Some e)) n last w h = let x = there_is (slice_get p.expressions e) h in same_finds e x.0 w x.1
    judged_there counts (Match None) n last w h = absurd cc
    judged_there counts (Line i) n last w h = refl
    judged_there counts Last n last w h = refl

    moved_so : (a : Address) → address_behind b (Some a) ≡ Some (moved a)
    moved_so (Match (Some e)) = refl
    moved_so (Match None) = refl
    moved_so (Line i) = refl
    moved_so Last = refl

    same_once : (n : ℕ) (a : Address) → ends_at_once n (moved a) ≡ ends_at_once n a
    same_once n (Match (Some e)) = refl
    same_once n (Match None) = refl
    same_once n (Line i) = refl
    same_once n Last = refl

    ranged_there : (counts : Bool) (a c : Address) (active : Bool) (n : ℕ) (last : Bool) (w : List ℕ) → asks_own counts p (Some a) ≡ true → asks_own counts p (Some c) ≡ true →
        ranged g.finds (moved a) (moved c) active n last w ≡ ranged g1.finds a c active n last w
    ranged_there counts a c false n last w h k = ap₂ idle (judged_there counts a n last w h) (same_once n c)
    ranged_there counts a (Line i) true n last w h k =
        ap (λ (x : Bool). if nat_lt n i then (true, true) else (if nat_eq n i then (true, false) else idle x (ends_at_once n (Line i)))) (judged_there counts a n last w h)
    ranged_there counts a Last true n last w h k = refl
    ranged_there counts a (Match (Some e)) true n last w h k = ap (λ (x : Bool). (true, not x)) (judged_there counts (Match (Some e)) n last w k)
    ranged_there counts a (Match None) true n last w h k = absurd cc

    choice_there : (counts : Bool) (first second : Option Address) (active : Bool) (n : ℕ) (last : Bool) (w : List ℕ) → asks_own counts p first ≡ true → asks_own counts p second ≡ true →
        choice_of g.finds (address_behind b first) (address_behind b second) active n last w ≡ choice_of g1.finds first second active n last w
    choice_there counts None second active n last w h k = refl
    choice_there counts (Some a) None active n last w h k =
        ap (λ o. choice_of g.finds o None active n last w) (moved_so a) ∙ ap (λ (x : Bool). (x, active)) (judged_there counts a n last w h)
    choice_there counts (Some a) (Some c) active n last w h k =
        ap₂ (λ o o'. choice_of g.finds o o' active n last w) (moved_so a) (moved_so c) ∙ ranged_there counts a c active n last w h k

    chosen_there : (counts : Bool) (c : Command) (active : Bool) (n : ℕ) (last : Bool) (w : List ℕ) (u : Option ℕ) → asks_own counts p c.first ≡ true → asks_own counts p c.second ≡ true →
        Chosen g (command_behind b c) active n last w u (on_of g1.finds c active n last w)
    chosen_there counts c active n last w u h k =
        subst (Chosen g (command_behind b c) active n last w u) (ap (with_bang c.negate) (choice_there counts c.first c.second active n last w h k))
        (chosen_so counts r g (command_behind b c) active n last w u (address_there counts c.first h) (address_there counts c.second k))

    replaces_there : (k : ℕ) (o : Option Substitution) → slice_get p.substitutions k ≡ o → replaces_only p o ≡ true → Replaces g (slice_get r.substitutions (b.substitutions + k)) (substituted_by g1 o)
    replaces_there k None at h = absurd cc
    replaces_there k (Some t) at h =
        let s = is_plain p t h in
        let put : Substitution = substitution_behind b t in
        let by : (w : List ℕ) → with_found put w (to_replace_in g put (b.expressions + s.0) w) ≡ substituted_by g1 (Some t) w =
        λ w. ap (λ f. with_found t w (to_replace t.number t.global (each_occurrence f (length w)))) (same_search s.0 s.1 w s.3) ∙ ap (λ e. by_expression g1 t e w) (sym s.2) in
        subst (λ o. Replaces g o (substituted_by g1 (Some t))) (sym (is.substitutions k t at))
        (b.expressions + s.0, ap (option_map (λ e. b.expressions + e)) s.2, s.4, ap (option_map (sink_behind b)) s.5, by)

    makes_there : (a : Action) → edits_line p a ≡ true → Makes g (action_behind b a) (placed to (edit_of g1 a))
    makes_there (Block n) h = refl
    makes_there (Plain Delete) h = tt
    makes_there (Substitute k) h = replaces_there k (slice_get p.substitutions k) refl h
    makes_there (Transliterate k) h = λ w. let x = there_is (slice_get p.tables k) h in ap (λ o. map (in_table o) w) (is.tables k x.0 x.1 ∙ sym x.1)
    makes_there other h = absurd cc

    module _ (Good : List ℕ → Type 0) (keeps_replaced : (k : ℕ) (w : List ℕ) → Good w → Good (substituted_by g1 (slice_get p.substitutions k) w)) (keeps_table : (k : ℕ) (w : List ℕ) → Good w → Good (map (in_table (slice_get p.tables k)) w)) where
      fits_so : (a : Action) → edits_line p a ≡ true → Fits (length p.commands) Good (edit_of g1 a)
      fits_so (Block n) h = grind (arith, nat_tests)
      fits_so (Plain Delete) h = tt
      fits_so (Substitute k) h = keeps_replaced k
      fits_so (Transliterate k) h = keeps_table k
      fits_so other h = absurd cc

      both_at : (counts : Bool) → EachOnlyEdits counts p → (k : ℕ) → k < length p.commands → Both (AlikeIn counts) g1 g (length p.commands) to Good k
      both_at counts only k less =
          let c = found_below p.commands k less in
          let test = all_there (only_edits counts p) p.commands k c.0 only.each c.1 in
          let three = tests counts p c.0 test in
          record {
            here = c.0;
            there = command_behind b c.0;
            on = on_of g1.finds c.0;
            edit = edit_of g1 c.0.action;
            is_here = c.1;
            is_there = is.commands k c.0 counts c.1 test;
            makes_here = record { chooses = λ active n last w u. chosen_so counts p g1 c.0 active n last w u three.0 three.1; makes = makes_here c.0.action three.2 };
            makes_there = record { chooses = λ active n last w u. chosen_there counts c.0 active n last w u three.0 three.1; makes = makes_there c.0.action three.2 };
            fits = fits_so c.0.action three.2;
            chooses_both = chooses_alike counts p g1.finds c.0 three.0 three.1;
          }

-- ---- the two scripts in the one of both

in_first : {A : Type 0} (xs ys : List A) (k : ℕ) (x : A) → slice_get xs k ≡ Some x → slice_get (xs ++ ys) (0 + k) ≡ Some x
in_first xs ys k x h = ap (slice_get (xs ++ ys)) (zero-add k) ∙ in_front xs ys k x h

first_placed : (p q : Program) → Placed p (in_turn p q) none_before
first_placed p q = record {
  commands = λ k c counts h test. in_first p.commands (map (command_behind (all_before p)) q.commands) k c h ∙ ap (λ c. Some c) (sym (same_command c));
  expressions = λ e x h. in_first p.expressions q.expressions e x h;
  substitutions = λ k t h. in_first p.substitutions (map (substitution_behind (all_before p)) q.substitutions) k t h ∙ ap (λ t. Some t) (sym (same_substitution t));
  tables = λ k x h. in_first p.tables q.tables k x h;
}

second_placed : (p q : Program) → Placed q (in_turn p q) (all_before p)
second_placed p q = record {
  commands = λ k c counts h test. behind_all (command_behind (all_before p)) p.commands q.commands k c h;
  expressions = λ e x h. slice_get-append_add p.expressions q.expressions e ∙ h;
  substitutions = λ k t h. behind_all (substitution_behind (all_before p)) p.substitutions q.substitutions k t h;
  tables = λ k x h. slice_get-append_add p.tables q.tables k ∙ h;
}

-- the first makes no newline
replaced_unbroken : (p : Program) (files : ℕ → List ℕ) → BreaksNoLine p → (k : ℕ) (w : List ℕ) → Unbroken w → Unbroken (substituted_by (setting_of p files) (slice_get p.substitutions k) w)
replaced_unbroken p files breaks k w h = by_place (slice_get p.substitutions k) refl
  where
    by_found : (t : Substitution) (ms : List Occurrence) → list_any is_break t.replacement ≡ false → Unbroken (with_found t w ms)
    by_found t [] none = h
    by_found t (m ∷ ms) none = unbroken_replaced w t.replacement 0 (m ∷ ms) h none

    by_number : (t : Substitution) (e : Option ℕ) → list_any is_break t.replacement ≡ false → Unbroken (by_expression (setting_of p files) t e w)
    by_number t None none = h
    by_number t (Some e) none = by_found t (to_replace_in (setting_of p files) t e w) none

    by_place : (o : Option Substitution) → slice_get p.substitutions k ≡ o → Unbroken (substituted_by (setting_of p files) o w)
    by_place None at = h
    by_place (Some t) at = by_number t t.expression (not_so (list_any is_break t.replacement) (all_there (λ t. not (list_any is_break t.replacement)) p.substitutions k t breaks.replacements at))

no_more : (p : Program) → slice_get p.commands (length p.commands) ≡ None
no_more p = slice_get_past p.commands (length p.commands) (omega arith)

no_more_of_both : (p q : Program) → slice_get (in_turn p q).commands (length p.commands + length q.commands) ≡ None
no_more_of_both p q =
    let all : List Command = map (command_behind (all_before p)) q.commands in
    slice_get_past (p.commands ++ all) (length p.commands + length q.commands) (omega (arith, length-append p.commands all, length-map q.commands (command_behind (all_before p))))

idle_at_first : {A : Type 0} (xs : List A) (k : ℕ) → slice_index_or (map (λ _. false) xs) k false ≡ false
idle_at_first [] k = refl
idle_at_first (x ∷ xs) zero = refl
idle_at_first (x ∷ xs) (suc k) = idle_at_first xs k

starts_idle : (p r : Program) (to : ℕ → ℕ) → ((k : ℕ) → k < length p.commands → to k < length r.commands) → RangesAgree to (length p.commands) (map (λ _. false) p.commands) (map (λ _. false) r.commands)
starts_idle p r to fits = record {
  here = λ k less. omega (arith, less, length-map p.commands (λ (c : Command). false));
  there = λ k less. let fit = fits k less in omega (arith, fit, length-map r.commands (λ (c : Command). false));
  same = λ k less. idle_at_first r.commands (to k) ∙ sym (idle_at_first p.commands k);
}

starts : (p : Program) (ls : List (List ℕ)) → Between 0 ls (map (λ _. false) p.commands) (start p.commands ls)
starts p ls = record { hold = []; replaced = false; used = None; turns = 0; is = refl }

pub in_turn_law : (p q : Program) (files : ℕ → List ℕ) (input middle : List ℕ) (out : List (ℕ × ℕ)) → EachOnlyEdits true p → EachOnlyEdits false q → BreaksNoLine p →
    RunsTo p files input (to_sink 0 middle) → RunsTo q files middle out → RunsTo (in_turn p q) files input out
in_turn_law p q files input middle out only_p only_q breaks a b =
    let r : Program = in_turn p q in
    let moved : List Command = map (command_behind (all_before p)) q.commands in
    let long : length r.commands ≡ length p.commands + length q.commands = omega (arith, length-append p.commands moved, length-map q.commands (command_behind (all_before p))) in
    let loud : r.quiet ≡ false = rw (only_p.loud, only_q.loud) refl in
    let first : (k : ℕ) → k < length p.commands → Both SameLines (setting_of p files) (setting_of r files) (length p.commands) (λ k. k) Unbroken k =
    λ k less. subst (λ to. Both SameLines (setting_of p files) (setting_of r files) (length p.commands) to Unbroken k) (fun_ext zero-add)
    (both_at p files r none_before (first_placed p q) Unbroken (replaced_unbroken p files breaks) (λ k w h. unbroken_map (in_table (slice_get p.tables k)) (breaks.tables k) w h) true only_p k less) in
    let second = both_at q files r (all_before p) (second_placed p q) (λ w. Unit {0}) (λ k w h. tt) (λ k w h. tt) false only_q in
    in_turn_run (setting_of p files) (setting_of q files) (setting_of r files) (length p.commands) (length q.commands) only_p.loud only_q.loud loud (no_more p) (no_more q) (no_more_of_both p q) first second
    input middle out (map (λ _. false) p.commands) (map (λ _. false) q.commands) (map (λ _. false) r.commands) (start p.commands (split_lines input)) (start r.commands (split_lines input)) (start q.commands (split_lines middle))
    (starts_idle p r (λ k. k) (λ k less. omega (arith, less, long))) (starts_idle q r (λ k. length p.commands + k) (λ k less. omega (arith, less, long)))
    (starts p (split_lines input)) (starts r (split_lines input)) (starts q (split_lines middle)) a b
