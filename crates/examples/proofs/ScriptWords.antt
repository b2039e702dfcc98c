-- Words of the examples.
use Rattle.std.proofs.Common.{ℕ, List, false, true, Option, Some, None}
use Rattle.sedre.specs.declared.types.ExprReason.{ExprReason}
use Rattle.sedscript.specs.declared.types.Action.{Action}
use Rattle.sedscript.specs.declared.types.Address.{Address}
use Rattle.sedscript.specs.declared.types.Command.{Command}
use Rattle.sedscript.specs.declared.types.Reason.{Reason}
use Rattle.sedscript.specs.declared.types.Reason.TheVariants.{Expression}
use Rattle.sedscript.specs.declared.types.ScriptFault.{ScriptFault}
use Rattle.sedscript.specs.declared.substitution.Substitution.{Substitution}
use Rattle.sedscript.specs.declared.substitution.Piece.{Piece}

-- a fault at a place
abbrev pub fault_at : ℕ → Reason → ScriptFault
fault_at place reason = record { place = place; reason = reason }

-- a fault of a regular expression: its place in the script, its place in the expression and its reason
abbrev pub expression_fault_at : (place within : ℕ) → ExprReason → ScriptFault
expression_fault_at place within reason = fault_at place (Expression (record { place = within; reason = reason }))

-- a command for all pattern spaces
abbrev pub always : Action → Command
always action = record { first = None; second = None; negate = false; action = action }

-- a command with one address
abbrev pub at : Address → Action → Command
at one action = record (always action) { first = Some one }

-- a command with two addresses
abbrev pub from_to : Address → Address → Action → Command
from_to one other action = record (always action) { first = Some one; second = Some other }

-- a command for the pattern spaces that aren't selected
abbrev pub unless : Command → Command
unless command = record command { negate = true }

-- a substitution of the first occurrence, by the expression of this number
abbrev pub substitution : Option ℕ → List Piece → Substitution
substitution number pieces = record {
  expression = number;
  replacement = pieces;
  number = 1;
  global = false;
  print = false;
  file = None;
}
