-- Private to the proofs: no contract that `sedengine` makes public cites what is here.
-- What commands need of a line to leave it alone, and which of the lines of a block have it.
use Rattle.std.specs.Prelude.{◌≡◌, ℕ, zero, suc, ◌+◌, ◌<◌, ◌≤◌, ◌⊎◌, Bool, true, false, Option, Some, None, List, [], ◌∷◌, ◌++◌, length, take, is_some, slice_get, slice_index_or, if◌then◌else◌}
use Rattle.std.specs.List.{Contains}
use Rattle.std.specs.Option.{option_or, option_map}
use Rattle.sedspace.specs.Stream.{AreWholeLines}
use Rattle.sedacts.specs.Types.{Address, Line, Last, Match, Command, Action, Substitution}
use Rattle.sedscript.specs.declared.types.Action.TheVariants.{Block, Branch, Substitute}
use Rattle.sedscript.specs.declared.types.BranchUse.TheVariants.{Always}
use Rattle.sedscript.specs.Ranges.{IsOneOf}
use Rattle.sedscript.specs.Program.{Program}
use Rattle.sedre.specs.Tree.{WrittenExpression}
use Rattle.sedspace.specs.Lines.{split_lines}
use Rattle.sedacts.specs.State.{finds_in}
use Rattle.sedacts.specs.Move.{newline}
use Rattle.sedacts.specs.declared.idle.Need.{Need}
use Rattle.sedacts.specs.declared.idle.Need.TheVariants.{NoMatch, OtherNumber, NotLast, Nothing}
use Rattle.sedacts.specs.declared.idle.Idle.{Idle}
use Rattle.sedacts.specs.declared.block.Extent.{Extent}

-- what an address needs to select nothing
abbrev pub need_of_address : Address → Option Need
need_of_address (Line n) = Some (OtherNumber n)
need_of_address Last = Some NotLast
need_of_address (Match e) = option_map NoMatch e

abbrev pub need_of_substitution : Option Substitution → Option Need
need_of_substitution None = None
need_of_substitution (Some t) = option_map NoMatch t.expression

-- without an address: `s` that finds nothing, `t` where nothing was substituted, `{` and `b`, which only go on elsewhere
abbrev pub need_of_action : List Substitution → Action → Option Need
need_of_action ts (Substitute k) = need_of_substitution (slice_get ts k)
need_of_action ts (Block k) = Some Nothing
need_of_action ts (Branch u k) = Some Nothing
need_of_action ts other = None

abbrev pub need_by : List Substitution → Option Address → Action → Option Need
need_by ts (Some first) action = need_of_address first
need_by ts None action = need_of_action ts action

-- what a command needs, if that is known. Of one with two addresses it is known where its range is idle; of one with `!`
-- nothing is
abbrev pub need_of : List Substitution → Option Command → Option Need
need_of ts None = None
need_of ts (Some c) = if c.negate then None else need_by ts c.first c.action

-- where the script goes on behind command k, if that does nothing
abbrev pub behind_by : Option Address → Action → ℕ → ℕ
behind_by (Some first) (Block next) k = next
behind_by None (Branch Always target) k = target
behind_by first action k = k + 1

abbrev pub behind : Option Command → ℕ → ℕ
behind None k = k
behind (Some c) k = behind_by c.first c.action k

-- the number of the command of a script that is reached after j others, if these do nothing
unfoldable pub place_at : List Command → ℕ → ℕ
place_at cs zero = 0
place_at cs (suc j) = behind (slice_get cs (place_at cs j)) (place_at cs j)

-- what that command needs, where the script's substitutions are these
abbrev pub need_at : List Command → List Substitution → ℕ → Option Need
need_at cs ts j = need_of ts (slice_get cs (place_at cs j))

-- the expression that a command judges
abbrev pub judged_by : Option Need → Option ℕ
judged_by (Some (NoMatch e)) = Some e
judged_by other = None

-- the expression that the first j of these commands judge last
unfoldable pub judged : List Command → List Substitution → ℕ → Option ℕ
judged cs ts zero = None
judged cs ts (suc j) = option_or (judged_by (need_at cs ts j)) (judged cs ts j)

-- A script that leaves lines alone: c commands are reached on such a line, of each it is known what it needs, and then the
-- script ends.
pub record IsIdle (cs : List Command) (ts : List Substitution) (c : ℕ) : Type 0 where
  pub needs : (j : ℕ) → j < c → is_some (need_at cs ts j) ≡ true
  pub ends : slice_get cs (place_at cs c) ≡ None

-- one of these commands has this need
abbrev pub IsNeeded : List Command → List Substitution → ℕ → Need → Type 0
IsNeeded cs ts c need = (j : ℕ) × (j < c) × (need_at cs ts j ≡ Some need)

-- What was found out of the commands that are reached first, as far as all of them are known.
pub record Walked (cs : List Command) (ts : List Substitution) (i : Idle) : Type 0 where
  pub place : i.place ≡ place_at cs i.reached
  pub needs : (j : ℕ) → j < i.reached → is_some (need_at cs ts j) ≡ true
  pub judged : i.judged ≡ judged cs ts i.reached
  pub last : IsNeeded cs ts i.reached NotLast → i.asks_last ≡ true
  pub expressions : (e : ℕ) → IsNeeded cs ts i.reached (NoMatch e) → Contains i.expressions.items e

-- One more command was found to have this need, behind which the script goes on at this place.
pub record NotesNeed (old new : Idle) (need : Need) (place : ℕ) : Type 0 where
  pub reached : new.reached ≡ old.reached + 1
  pub next : new.place ≡ place
  pub judged : new.judged ≡ option_or (judged_by (Some need)) old.judged
  pub asks : need ≡ NotLast → new.asks_last ≡ true
  pub asked : old.asks_last ≡ true → new.asks_last ≡ true
  pub expression : (e : ℕ) → need ≡ NoMatch e → Contains new.expressions.items e
  pub expressions : (e : ℕ) → Contains old.expressions.items e → Contains new.expressions.items e

-- What was found out of all of them.
pub record DescribesAll (cs : List Command) (ts : List Substitution) (i : Idle) : Type 0 where
  pub idle : IsIdle cs ts i.reached
  pub judged : i.judged ≡ judged cs ts i.reached
  pub last : IsNeeded cs ts i.reached NotLast → i.asks_last ≡ true
  pub expressions : (e : ℕ) → IsNeeded cs ts i.reached (NoMatch e) → Contains i.expressions.items e

-- an expression that is judged is one of so many
abbrev pub NeedWithin : ℕ → Option Need → Type 0
NeedWithin n (Some (NoMatch e)) = e < n
NeedWithin n other = Unit {0}

-- what was found out of the commands of a script
pub record IsIdleOf (p : Program) (i : Idle) : Type 0 where
  pub describes : DescribesAll p.commands p.substitutions i
  pub judged : IsOneOf (length p.expressions) i.judged
  pub few : i.reached ≤ 64

-- no range of these commands is active
abbrev pub RangesIdle : List Command → ℕ → List Bool → Type 0
RangesIdle cs c ranges = (j : ℕ) → j < c → slice_index_or ranges (place_at cs j) false ≡ false

-- none of these commands asks for the number of one of so many lines after the one of this number
abbrev pub AsksNoNumber : List Command → List Substitution → ℕ → ℕ → ℕ → Type 0
AsksNoNumber cs ts c number most = (n : ℕ) → IsNeeded cs ts c (OtherNumber n) → (n ≤ number) ⊎ (number + most < n)

-- What was found out of the first j commands that are reached, after which the one of this place is.
pub record Cleared (cs : List Command) (ts : List Substitution) (ranges : List Bool) (number j place most : ℕ) : Type 0 where
  pub at : place ≡ place_at cs j
  pub idle : RangesIdle cs j ranges
  pub clear : AsksNoNumber cs ts j number most

-- lines, each with its newline
abbrev pub bytes_of_lines : List (List ℕ) → List ℕ
bytes_of_lines [] = []
bytes_of_lines (line ∷ lines) = line ++ newline ∷ bytes_of_lines lines

-- a line that occurs in these bytes, with its newline
pub record IsLineOf (line all : List ℕ) : Type 0 where
  pub before : List ℕ
  pub behind : List ℕ
  pub is : all ≡ before ++ (line ++ newline ∷ behind)

-- the first lines of a block: so many, or all where there are fewer
pub record IsExtent (bytes : List ℕ) (most : ℕ) (x : Extent) : Type 0 where
  pub within : x.bytes ≤ length bytes
  pub whole : AreWholeLines (take x.bytes bytes)
  pub count : x.lines ≡ length (split_lines (take x.bytes bytes))
  pub few : x.lines ≤ most
  pub many : (x.lines ≡ most) ⊎ (x.bytes ≡ length bytes)

-- no line of the text that ends before a place has a match of this expression
abbrev pub ClearTo : List WrittenExpression → ℕ → List ℕ → ℕ → Type 0
ClearTo expressions e text end =
    (before line behind : List ℕ) → text ≡ before ++ (line ++ newline ∷ behind) → length before + length line < end →
    finds_in expressions e line ≡ false
