-- Scripts whose commands look at their line alone.
use Rattle.std.specs.Prelude.{◌≡◌, Bool, true, false, ◌&&◌, Option, Some, None, List, is_some, is_none, slice_get}
use Rattle.std.specs.List.{list_all}
use Rattle.sedscript.specs.declared.types.Address.{Address}
use Rattle.sedscript.specs.declared.types.Address.TheVariants.{Match}
use Rattle.sedscript.specs.declared.types.Command.{Command}
use Rattle.sedscript.specs.declared.types.Action.{Action}
use Rattle.sedscript.specs.declared.types.Action.TheVariants.{Plain, Substitute}
use Rattle.sedscript.specs.declared.types.Simple.TheVariants.{AppendHold, AppendNext, CopyHold, Exchange, Hold, HoldMore, LineNumber, NextLine, Quit}
use Rattle.sedscript.specs.declared.substitution.Substitution.{Substitution}
use Rattle.sedscript.specs.Program.{Program}

-- no address, or `/RE/` with an expression of its own: no number, no `$`, no empty expression
abbrev pub asks_text : Option Address → Bool
asks_text None = true
asks_text (Some (Match (Some e))) = true
asks_text other = false

abbrev pub has_expression : Option Substitution → Bool
has_expression None = true
has_expression (Some t) = is_some t.expression

-- none of `n`, `N`, `q` and `=`, nothing with the hold space, and no `s` with an empty expression
abbrev pub stays_in_line : List Substitution → Action → Bool
stays_in_line ts (Substitute k) = has_expression (slice_get ts k)
stays_in_line ts (Plain NextLine) = false
stays_in_line ts (Plain AppendNext) = false
stays_in_line ts (Plain Quit) = false
stays_in_line ts (Plain LineNumber) = false
stays_in_line ts (Plain AppendHold) = false
stays_in_line ts (Plain CopyHold) = false
stays_in_line ts (Plain Exchange) = false
stays_in_line ts (Plain Hold) = false
stays_in_line ts (Plain HoldMore) = false
stays_in_line ts other = true

abbrev pub looks_at_line : List Substitution → Command → Bool
looks_at_line ts c = (is_none c.second && asks_text c.first) && stays_in_line ts c.action

-- each command of the script looks at its line alone
abbrev pub EachLooksAtLine : Program → Type 0
EachLooksAtLine p = list_all (looks_at_line p.substitutions) p.commands ≡ true
