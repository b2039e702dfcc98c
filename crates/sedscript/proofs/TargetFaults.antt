-- What is wrong with one item, and what it does.
use Rattle.std.proofs.Common.{◌≡◌, ℕ, Bool, true, false, not, List, Option, Some, None, is_some, is_none, refl, sym, ap, ◌∙◌, ◌+◌, [], ◌∷◌, ◌++◌, take, drop, slice_get, append_assoc, map, filter_map, option_map, subst}
use Rattle.std.specs.List.{cons_option}
use Rattle.std.proofs.lemmas.List.Elements.{filter_map-append}
use Rattle.std.specs.Option.{option_or}
use Rattle.sedscript.specs.declared.types.ScriptFault.{ScriptFault}
use Rattle.sedscript.specs.declared.types.Action.{Action}
use Rattle.sedscript.specs.Script.{action_of, command_of, commands_of, text_in, substitution_in, table_in, target_fault_at, target_fault_in, depth_after}
use Rattle.sedscript.specs.Parts.{OperandsAre}
use Rattle.sedscript.specs.declared.types.Command.{Command}
use Rattle.sedscript.specs.declared.items.Item.{Item}
use Rattle.sedscript.specs.declared.script.Operands.{Operands}
use Rattle.sedscript.proofs.Labels.{none_of, take_item, drop_item}

-- whether one is missing, as the test says
pub missing : {A : Type 0} (o : Option A) (b : Bool) → is_some o ≡ not b → b ≡ is_none o
missing None true e = refl
missing None false e = cc
missing (Some x) true e = cc
missing (Some x) false e = refl

first_some : {A : Type 0} (o x : Option A) (b : Bool) → b ≡ is_some o → b ≡ true → o ≡ option_or o x
first_some None x b e f = let g : false ≡ true = sym e ∙ f in cc
first_some (Some y) x b e f = refl

-- one item more, which has a fault
pub target_fault_here : (text : List ℕ) (all : List Item) (k depth : ℕ) (i : Item) (f : Option ScriptFault) (b : Bool) (whole : Option ScriptFault) → slice_get all k ≡ Some i →
    f ≡ target_fault_at text all (take k all) depth (drop (k + 1) all) i.place i.verb i.argument → b ≡ is_some f → b ≡ true →
    whole ≡ target_fault_in text all (take k all) depth (drop k all) → f ≡ whole
target_fault_here text all k depth i f b whole at is some wrong so_far =
    let rest : Option ScriptFault = target_fault_in text all (take k all ++ i ∷ []) (depth_after depth i.verb) (drop (k + 1) all) in
    first_some f rest b some wrong ∙ (ap (λ (o : Option ScriptFault). option_or o rest) is
    ∙ (sym (ap (target_fault_in text all (take k all) depth) (drop_item all k i at)) ∙ sym so_far))

-- one item more without a fault
pub target_fault_step : (text : List ℕ) (all : List Item) (k depth next : ℕ) (i : Item) (f : Option ScriptFault) (b : Bool) (whole : Option ScriptFault) → slice_get all k ≡ Some i →
    f ≡ target_fault_at text all (take k all) depth (drop (k + 1) all) i.place i.verb i.argument → b ≡ is_some f → b ≡ false → next ≡ depth_after depth i.verb →
    whole ≡ target_fault_in text all (take k all) depth (drop k all) → whole ≡ target_fault_in text all (take (k + 1) all) next (drop (k + 1) all)
target_fault_step text all k depth next i f b whole at is some right deeper so_far =
    so_far ∙ (ap (target_fault_in text all (take k all) depth) (drop_item all k i at)
    ∙ (ap (λ (o : Option ScriptFault). option_or o (target_fault_in text all (take k all ++ i ∷ []) (depth_after depth i.verb) (drop (k + 1) all))) (sym is ∙ none_of f b some right)
    ∙ (ap (λ (d : ℕ). target_fault_in text all (take k all ++ i ∷ []) d (drop (k + 1) all)) (sym deeper)
    ∙ ap (λ (is : List Item). target_fault_in text all is next (drop (k + 1) all)) (sym (take_item all k i at)))))

with_more : {A : Type 0} (o : Option A) (xs : List A) → cons_option o xs ≡ cons_option o [] ++ xs
with_more None xs = refl
with_more (Some x) xs = refl

-- the commands with those of one item more
pub commands_step : (text : List ℕ) (all : List Item) (k : ℕ) (i : Item) (action : Option Action) (old new whole : List Command) → slice_get all k ≡ Some i →
    action ≡ action_of text all (take k all) (drop (k + 1) all) i.verb i.argument → new ≡ old ++ cons_option (option_map (command_of i.addresses) action) [] →
    whole ≡ old ++ commands_of text all (take k all) (drop k all) → whole ≡ new ++ commands_of text all (take (k + 1) all) (drop (k + 1) all)
commands_step text all k i action old new whole at is grown so_far =
    let rest : List Command = commands_of text all (take (k + 1) all) (drop (k + 1) all) in
    let one : Option Command = option_map (command_of i.addresses) action in
    so_far ∙ (ap (λ (is : List Item). old ++ commands_of text all (take k all) is) (drop_item all k i at)
    ∙ (ap (λ (o : Option Action). old ++ cons_option (option_map (command_of i.addresses) o) (commands_of text all (take k all ++ i ∷ []) (drop (k + 1) all))) (sym is)
    ∙ (ap (λ (is : List Item). old ++ cons_option one (commands_of text all is (drop (k + 1) all))) (sym (take_item all k i at))
    ∙ (ap (λ (cs : List Command). old ++ cs) (with_more one rest)
    ∙ (sym (append_assoc old (cons_option one []) rest) ∙ ap (λ (cs : List Command). cs ++ rest) (sym grown))))))

-- what is taken of items, with one item more
taken : {A : Type 0} (h : Item → Option A) (is : List Item) (i : Item) (old new : List A) → old ≡ filter_map h is → new ≡ old ++ cons_option (h i) [] → new ≡ filter_map h (is ++ i ∷ [])
taken h is i old new e grown = grown ∙ (ap (λ xs. xs ++ cons_option (h i) []) e ∙ sym (filter_map-append h is (i ∷ [])))

-- the texts, substitutions and tables with those of one item more
pub operands_step : (text : List ℕ) (all : List Item) (k : ℕ) (i : Item) (old new : Operands) → slice_get all k ≡ Some i → OperandsAre text all (take k all) old →
    map (λ t. t.items) new.texts.items ≡ map (λ t. t.items) old.texts.items ++ cons_option (text_in text i.verb i.argument) [] →
    new.substitutions.items ≡ old.substitutions.items ++ cons_option (substitution_in text all i.argument) [] →
    map (λ t. t.items) new.tables.items ≡ map (λ t. t.items) old.tables.items ++ cons_option (table_in text i.argument) [] →
    OperandsAre text all (take (k + 1) all) new
operands_step text all k i old new at h texts substitutions tables =
    subst (λ (is : List Item). OperandsAre text all is new) (sym (take_item all k i at)) (record {
      texts = taken (λ (j : Item). text_in text j.verb j.argument) (take k all) i _ _ h.texts texts;
      substitutions = taken (λ (j : Item). substitution_in text all j.argument) (take k all) i _ _ h.substitutions substitutions;
      tables = taken (λ (j : Item). table_in text j.argument) (take k all) i _ _ h.tables tables;
    })
