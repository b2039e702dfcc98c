-- Where nothing comes before a script, its numbers are the same.
use Rattle.std.proofs.Common.{◌≡◌, ℕ, zero, suc, ◌+◌, List, [], ◌∷◌, map, Option, Some, None, option_map, refl, ap, ap₂, ◌∙◌, zero-add}
use Rattle.sedscript.specs.declared.types.Address.{Address}
use Rattle.sedscript.specs.declared.types.Address.TheVariants.{Match, Line, Last}
use Rattle.sedscript.specs.declared.types.Action.{Action}
use Rattle.sedscript.specs.declared.types.Action.TheVariants as action
use Rattle.sedscript.specs.declared.types.FileUse.{FileUse}
use Rattle.sedscript.specs.declared.types.FileUse.TheVariants.{Read, Write}
use Rattle.sedscript.specs.declared.types.Command.{Command}
use Rattle.sedscript.specs.declared.substitution.Substitution.{Substitution}
use Rattle.scripts.specs.InTurn.{CountsBefore, address_behind, file_behind, action_behind, command_behind, sink_behind, substitution_behind}

abbrev pub none_before : CountsBefore
none_before = record { commands = 0; expressions = 0; texts = 0; substitutions = 0; tables = 0; rfiles = 0; wfiles = 0 }

same_address : (a : Option Address) → address_behind none_before a ≡ a
same_address None = refl
same_address (Some (Match None)) = refl
same_address (Some (Match (Some k))) = ap (λ k. Some (Match (Some k))) (zero-add k)
same_address (Some (Line n)) = refl
same_address (Some Last) = refl

pub same_sink : (k : ℕ) → sink_behind none_before k ≡ k
same_sink zero = refl
same_sink (suc k) = zero-add (suc k)

pub same_file_number : (u : FileUse) (k : ℕ) → file_behind none_before u k ≡ k
same_file_number Read k = zero-add k
same_file_number Write k = same_sink k

same_action : (a : Action) → action_behind none_before a ≡ a
same_action (action.Block k) = ap action.Block (zero-add k)
same_action (action.Branch u k) = ap (action.Branch u) (zero-add k)
same_action (action.Text t k) = ap (action.Text t) (zero-add k)
same_action (action.File u k) = ap (action.File u) (same_file_number u k)
same_action (action.Substitute k) = ap action.Substitute (zero-add k)
same_action (action.Transliterate k) = ap action.Transliterate (zero-add k)
same_action other = refl

pub same_command : (c : Command) → command_behind none_before c ≡ c
same_command c =
    ap₂ (λ first second. record c { first = first; second = second; action = action_behind none_before c.action }) (same_address c.first) (same_address c.second)
    ∙ ap (λ does. record c { action = does }) (same_action c.action)

pub same_commands : (cs : List Command) → map (command_behind none_before) cs ≡ cs
same_commands [] = refl
same_commands (c ∷ cs) = ap₂ (λ x xs. x ∷ xs) (same_command c) (same_commands cs)

same_expression : (o : Option ℕ) → option_map (λ e. 0 + e) o ≡ o
same_expression None = refl
same_expression (Some e) = ap (λ e. Some e) (zero-add e)

same_file : (o : Option ℕ) → option_map (sink_behind none_before) o ≡ o
same_file None = refl
same_file (Some k) = ap (λ k. Some k) (same_sink k)

pub same_substitution : (t : Substitution) → substitution_behind none_before t ≡ t
same_substitution t = ap₂ (λ e f. record t { expression = e; file = f }) (same_expression t.expression) (same_file t.file)

pub same_substitutions : (ts : List Substitution) → map (substitution_behind none_before) ts ≡ ts
same_substitutions [] = refl
same_substitutions (t ∷ ts) = ap₂ (λ x xs. x ∷ xs) (same_substitution t) (same_substitutions ts)
