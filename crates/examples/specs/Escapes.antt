-- Bytes that may not follow a backslash, and the first one that does (XCU sed, "Editing Commands in sed": `s` and
-- `y`).
use Rattle.std.specs.Prelude.{◌≡◌, ◌≤◌, ◌<◌, ℕ, ◌+◌, ◌-◌, List, Option, Some, None, slice_get}
use Rattle.std.specs.Prelude.{if◌then◌else◌, ◌==◌, ◌&&◌, ◌||◌, not, Bool, Ok}
use Rattle.sedre.specs.declared.types.Kind.{Kind}
use Rattle.sedre.specs.Tree.{WrittenExpression}
use Rattle.sedscript.specs.declared.types.ScriptFault.{ScriptFault}
use Rattle.sedscript.specs.declared.types.Reason.{Reason}
use Rattle.sedscript.specs.declared.types.Reason.TheVariants.{BadEscape, GroupAbsent}
use Rattle.sedscript.specs.declared.items.Strings.{Strings}
use Rattle.sedscript.specs.Arguments.{own_delimiter, substitute_strings}
use Rattle.sedscript.specs.Bytes.{is_digit}
use Rattle.sedscript.specs.Script.{IsRead}
use Rattle.sedscript.specs.Strings.{is_letter, exceeds}
use Rattle.examples.specs.Backslashes.{IsUnescaped}
use Rattle.examples.specs.Strings.{IsTransliterate}

-- what is wrong with a byte after a backslash in a string of `y`: it is none of the delimiter, a backslash, `n` and `t`
-- (`t`, and that others are refused: this project's own)
abbrev pub wrong_in_string : ℕ → ℕ → Option Reason
wrong_in_string delimiter b =
    if b == delimiter || b == 92 || b == 110 || b == 116 then None else Some BadEscape

-- what is wrong with a byte after a backslash in a replacement, where it isn't the delimiter: it is the digit of a
-- group that the expression hasn't, or a letter other than `n` and `t` (`t`, and that others are refused: this
-- project's own)
abbrev pub wrong_in_replacement : ℕ → (groups : Option ℕ) → ℕ → Option Reason
wrong_in_replacement delimiter groups b =
    if b == delimiter then None
    else if is_digit b then (if exceeds groups (b - 48) then Some GroupAbsent else None)
    else if is_letter b && not (b == 110 || b == 116) then Some BadEscape
    else None

-- a backslash that none escapes is at a place, and this byte follows it, both before `to`
pub record IsEscape (text : List ℕ) (from to at byte : ℕ) : Type 0 where
  pub begins : from ≤ at
  pub backslash : IsUnescaped 92 text from at
  pub next : slice_get text (at + 1) ≡ Some byte
  pub ends : at + 1 < to

-- the fault is that of an escape between two places, and with none before it something is wrong
pub record IsFirstWrong (wrong : ℕ → Option Reason) (text : List ℕ) (from to : ℕ) (f : ScriptFault) : Type 0 where
  pub byte : ℕ
  pub escape : IsEscape text from to f.place byte
  pub reason : wrong byte ≡ Some f.reason
  pub first : (at b : ℕ) → at < f.place → IsEscape text from to at b → wrong b ≡ None

-- the fault of the first escape between two places with which something is wrong, or None where nothing is with any
abbrev pub FirstWrong : (wrong : ℕ → Option Reason) → List ℕ → (from to : ℕ) → Option ScriptFault → Type 0
FirstWrong wrong text from to None = (at b : ℕ) → IsEscape text from to at b → wrong b ≡ None
FirstWrong wrong text from to (Some f) = IsFirstWrong wrong text from to f

-- an `s` is at a place, and these strings follow it
abbrev pub IsSubstitute : List ℕ → ℕ → Strings → Type 0
IsSubstitute text at s =
    (slice_get text at ≡ Some 115)
    × (substitute_strings text (at + 1) (own_delimiter (slice_get text (at + 1))) ≡ Ok s)

-- the expression of an `s` has so many groups; the empty one sets no limit to them
abbrev pub HasGroups : Kind → ℕ → List ℕ → Strings → Option ℕ → Type 0
HasGroups kind max_nodes text s None = s.middle ≡ s.from
HasGroups kind max_nodes text s (Some groups) =
    (folded : Bool) × (e : WrittenExpression)
    × IsRead text kind max_nodes
    (record { from = s.from; to = s.middle; delimiter = s.delimiter; folded = folded })
    e
    × (groups ≡ e.groups)

-- the fault is that of the first wrong escape in a string of a `y`, or in the replacement of an `s`
pub data IsWrongEscape (kind : Kind) (max_nodes : ℕ) (text : List ℕ) (f : ScriptFault) : Type 0 where
  in_first : (at : ℕ) (s : Strings) → IsTransliterate text at s →
      IsFirstWrong (wrong_in_string s.delimiter) text s.from s.middle f → IsWrongEscape kind max_nodes text f
  in_second : (at : ℕ) (s : Strings) → IsTransliterate text at s →
      IsFirstWrong (wrong_in_string s.delimiter) text (s.middle + 1) s.to f → IsWrongEscape kind max_nodes text f
  in_replacement : (at : ℕ) (s : Strings) (groups : Option ℕ) → IsSubstitute text at s →
      HasGroups kind max_nodes text s groups →
      IsFirstWrong (wrong_in_replacement s.delimiter groups) text (s.middle + 1) s.to f →
      IsWrongEscape kind max_nodes text f
