-- The numbers of a script are in range.
use Rattle.std.specs.Prelude.{◌≡◌, ◌<◌, ◌≤◌, ℕ, List, length, Option, Some, None, slice_get}
use Rattle.sedre.specs.Tree.{WrittenExpression}
use Rattle.sedscript.specs.Types.{Address, Line, Match, Command}
use Rattle.sedscript.specs.declared.substitution.Substitution.{Substitution}
use Rattle.sedscript.specs.Program.{Program}
use Rattle.sedscript.specs.Script.{ActionWithin}

-- no number, which stands for the empty expression, or that of one of so many expressions
abbrev pub IsOneOf : ℕ → Option ℕ → Type 0
IsOneOf expressions None = Unit {0}
IsOneOf expressions (Some k) = k < expressions

-- where an address names an expression, it is one of so many, and where it names a line, that is 1 or more
abbrev pub AddressWithin : ℕ → Option Address → Type 0
AddressWithin expressions (Some (Line n)) = 1 ≤ n
AddressWithin expressions (Some (Match e)) = IsOneOf expressions e
AddressWithin expressions other = Unit {0}

-- a sink is the standard output, or one of so many files that are written
abbrev pub SinkWithin : ℕ → Option ℕ → Type 0
SinkWithin wfiles None = Unit {0}
SinkWithin wfiles (Some sink) = sink ≤ wfiles

-- a command's addresses and its action are in range
pub record CommandWithin (p : Program) (c : Command) : Type 0 where
  pub first : AddressWithin (length p.expressions) c.first
  pub second : AddressWithin (length p.expressions) c.second
  pub action : ActionWithin p c.action

-- a substitution has one of the expressions, replaces from the first occurrence on or a later one, and has one of the
-- sinks
pub record SubstitutionWithin (p : Program) (s : Substitution) : Type 0 where
  pub expression : IsOneOf (length p.expressions) s.expression
  pub number : 1 ≤ s.number
  pub file : SinkWithin (length p.wfiles) s.file

-- each command and each substitution is in range, no expression has more nodes than allowed, and each table has
-- all bytes
pub record IsWithinRanges (p : Program) : Type 0 where
  pub each : (i : ℕ) (c : Command) → slice_get p.commands i ≡ Some c → CommandWithin p c
  pub nodes : (k : ℕ) (e : WrittenExpression) → slice_get p.expressions k ≡ Some e → length e.nodes ≤ p.max_nodes
  pub substitutions : (k : ℕ) (s : Substitution) → slice_get p.substitutions k ≡ Some s →
      SubstitutionWithin p s
  pub tables : (k : ℕ) (t : List ℕ) → slice_get p.tables k ≡ Some t → length t ≡ 256
