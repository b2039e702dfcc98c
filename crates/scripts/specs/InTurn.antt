-- Two scripts that only edit their lines, one after the other (XCU sed, Options: scripts of -e are added in their order).
use Rattle.std.specs.Prelude.{◌≡◌, ℕ, zero, suc, ◌+◌, Bool, true, false, not, ◌&&◌, ◌||◌, Option, Some, None, ◌++◌, length, map, is_some, is_none, nat_le, slice_get}
use Rattle.std.specs.List.{list_all, list_any}
use Rattle.std.specs.Option.{option_map}
use Rattle.sedspace.specs.Lines.{is_newline}
use Rattle.sedscript.specs.declared.types.Address.{Address}
use Rattle.sedscript.specs.declared.types.Address.TheVariants.{Last, Line, Match}
use Rattle.sedscript.specs.declared.types.Command.{Command}
use Rattle.sedscript.specs.declared.types.Action.{Action}
use Rattle.sedscript.specs.declared.types.Action.TheVariants.{Block, Branch, File, Plain, Substitute, Text, Transliterate}
use Rattle.sedscript.specs.declared.types.Simple.TheVariants.{Delete}
use Rattle.sedscript.specs.declared.types.FileUse.{FileUse}
use Rattle.sedscript.specs.declared.types.FileUse.TheVariants.{Read, Write}
use Rattle.sedscript.specs.declared.substitution.Piece.{Piece}
use Rattle.sedscript.specs.declared.substitution.Piece.TheVariants.{Literal}
use Rattle.sedscript.specs.declared.substitution.Substitution.{Substitution}
use Rattle.sedscript.specs.Program.{Program}
use Rattle.sedengine.specs.Move.{in_table}

-- an expression of the script's own
abbrev pub is_own : Program → Option ℕ → Bool
is_own p None = false
is_own p (Some e) = is_some (slice_get p.expressions e)

-- no address, or `/RE/` with such an expression; and, where lines are counted, a number or `$`
abbrev pub asks_own : (counts : Bool) → Program → Option Address → Bool
asks_own counts p None = true
asks_own counts p (Some (Match e)) = is_own p e
asks_own counts p (Some (Line n)) = counts
asks_own counts p (Some Last) = counts

-- an `s` with such an expression, and without the flags `p` and `w`
abbrev pub replaces_only : Program → Option Substitution → Bool
replaces_only p None = false
replaces_only p (Some t) = is_own p t.expression && (not t.print && is_none t.file)

-- `{`, `d`, `s` and `y`, whose numbers are in the script
abbrev pub edits_line : Program → Action → Bool
edits_line p (Block next) = nat_le next (length p.commands)
edits_line p (Plain Delete) = true
edits_line p (Substitute k) = replaces_only p (slice_get p.substitutions k)
edits_line p (Transliterate k) = is_some (slice_get p.tables k)
edits_line p other = false

abbrev pub only_edits : (counts : Bool) → Program → Command → Bool
only_edits counts p c = asks_own counts p c.first && (asks_own counts p c.second && edits_line p c.action)

-- Each command of the script is one of these, and it has no -n: so it writes by default only. Where lines aren't counted, what it
-- does to a line depends on that line's text and on those before it alone.
pub record EachOnlyEdits (counts : Bool) (p : Program) : Type 0 where
  pub each : list_all (only_edits counts p) p.commands ≡ true
  pub loud : p.quiet ≡ false

-- whether a piece of a replacement is a newline
abbrev pub is_break : Piece → Bool
is_break (Literal b) = is_newline b
is_break other = false

-- No replacement has a newline in it, and no `y` makes one of another byte. So a line stays one line.
pub record BreaksNoLine (p : Program) : Type 0 where
  pub replacements : list_all (λ t. not (list_any is_break t.replacement)) p.substitutions ≡ true
  pub tables : (k b : ℕ) → is_newline b ≡ false → is_newline (in_table (slice_get p.tables k) b) ≡ false

-- how many commands, expressions and so on come before those of a script
pub record CountsBefore : Type 0 where
  pub commands : ℕ
  pub expressions : ℕ
  pub texts : ℕ
  pub substitutions : ℕ
  pub tables : ℕ
  pub rfiles : ℕ
  pub wfiles : ℕ

abbrev pub all_before : Program → CountsBefore
all_before p = record {
  commands = length p.commands;
  expressions = length p.expressions;
  texts = length p.texts;
  substitutions = length p.substitutions;
  tables = length p.tables;
  rfiles = length p.rfiles;
  wfiles = length p.wfiles;
}

-- the numbers in such addresses, commands and substitutions, where so many come before
abbrev pub address_behind : CountsBefore → Option Address → Option Address
address_behind b (Some (Match (Some e))) = Some (Match (Some (b.expressions + e)))
address_behind b other = other

-- 0 is the standard output
abbrev pub sink_behind : CountsBefore → ℕ → ℕ
sink_behind b zero = zero
sink_behind b (suc k) = b.wfiles + suc k

-- a file's number
abbrev pub file_behind : CountsBefore → FileUse → ℕ → ℕ
file_behind b Read k = b.rfiles + k
file_behind b Write sink = sink_behind b sink

abbrev pub action_behind : CountsBefore → Action → Action
action_behind b (Block next) = Block (b.commands + next)
action_behind b (Branch u next) = Branch u (b.commands + next)
action_behind b (Text t k) = Text t (b.texts + k)
action_behind b (File u k) = File u (file_behind b u k)
action_behind b (Substitute k) = Substitute (b.substitutions + k)
action_behind b (Transliterate k) = Transliterate (b.tables + k)
action_behind b other = other

abbrev pub command_behind : CountsBefore → Command → Command
command_behind b c = record c { first = address_behind b c.first; second = address_behind b c.second; action = action_behind b c.action }

abbrev pub substitution_behind : CountsBefore → Substitution → Substitution
substitution_behind b t = record t { expression = option_map (λ e. b.expressions + e) t.expression; file = option_map (sink_behind b) t.file }

-- the commands of one script, and then those of another
abbrev pub in_turn : Program → Program → Program
in_turn p q = record {
  commands = p.commands ++ map (command_behind (all_before p)) q.commands;
  expressions = p.expressions ++ q.expressions;
  texts = p.texts ++ q.texts;
  substitutions = p.substitutions ++ map (substitution_behind (all_before p)) q.substitutions;
  tables = p.tables ++ q.tables;
  rfiles = p.rfiles ++ q.rfiles;
  wfiles = p.wfiles ++ q.wfiles;
  quiet = p.quiet || q.quiet;
  max_nodes = p.max_nodes;
}
