-- Private to the proofs: no contract of a public item cites what is here.
-- What the reader's functions answer, against the definitions.
use Rattle.std.specs.Prelude.{◌≡◌, ◌≢◌, ◌<◌, ◌≤◌, ◌⊎◌, ℕ, List, ◌++◌, map, drop, length, Bool, true, false, Option, if◌then◌else◌, Result, Ok, Err}
use Rattle.std.specs.List.{range_with_len}
use Rattle.sedre.specs.declared.types.Kind.{Kind}
use Rattle.sedre.specs.declared.types.ExprReason.{ExprReason}
use Rattle.sedre.specs.declared.types.ExprReason.TheVariants.{NoMemory}
use Rattle.sedre.specs.declared.types.ExprFault.{ExprFault}
use Rattle.sedre.specs.Tree.{WrittenExpression}
use Rattle.sedscript.specs.Types.{ScriptFault, Address, Addresses, Item, Strings, Argument, ItemOrEnd, Is, Ends, Flags, Piece, literal}
use Rattle.sedscript.specs.declared.types.TheConstants.{NO_MEMORY}
use Rattle.sedscript.specs.declared.items.Source.{Source}
use Rattle.sedscript.specs.declared.substitution.ReplacementPart.{ReplacementPart}
use Rattle.sedscript.specs.Bytes.{◌>>=◌}
use Rattle.sedscript.specs.Arguments.{flags_from}
use Rattle.sedscript.specs.Strings.{is_among}
use Rattle.sedscript.specs.Pieces.{pieces_in}
use Rattle.sedscript.specs.Items.{Reading, Addressed, Headed}
use Rattle.sedscript.specs.Script.{Gives, IsEnd, CutWithoutFault}
use Rattle.sedscript.specs.FirstFault.{Fails, in_script}

-- what a function answered is what reading gives, and the expressions grew by those that were read,
-- unless a request for memory was refused
abbrev pub Comes : {X A : Type 0} → List ℕ → Kind → ℕ → List WrittenExpression → List WrittenExpression → (X → ℕ → A) →
    Result X ScriptFault → Reading A → Type 0
Comes text kind max_nodes old new view (Ok x) r =
    (es : List WrittenExpression) × Gives text kind max_nodes r es (view x (length new)) × (new ≡ old ++ es)
Comes text kind max_nodes old new view (Err f) r = Fails text kind max_nodes r f ⊎ (f ≡ NO_MEMORY)

-- what a function answered is what reading gives in the script of this source, and the expressions grew by those that
-- were read, unless a request for memory was refused
abbrev pub ComesFrom : {X A : Type 0} → Source → List WrittenExpression → List WrittenExpression → (X → ℕ → A) →
    Result X ScriptFault → Reading A → Type 0
ComesFrom source old new view result r = Comes source.text.now source.kind source.max_nodes old new view result r

-- what a function answered is this value or fault, where so many expressions come before the place after it
abbrev pub Agrees : {X A : Type 0} → (X → ℕ → A) → ℕ → Result X ScriptFault → Result A ScriptFault → Type 0
Agrees view count (Ok x) r = r ≡ Ok (view x count)
Agrees view count (Err f) r = r ≡ Err f

-- what functions answer, in the form of the definitions
abbrev pub as_addressed : Option Address × ℕ → ℕ → Addressed
as_addressed x n = record { address = x.0; at = x.1; count = n }

abbrev pub as_headed : Addresses × ℕ → ℕ → Headed
as_headed x n = record { addresses = x.0; at = x.1; count = n }

abbrev pub as_argument : Argument × ℕ → ℕ → Argument × ℕ
as_argument x n = x

abbrev pub as_groups : ℕ → ℕ → ℕ
as_groups groups n = groups

abbrev pub as_here : ItemOrEnd → ℕ → ItemOrEnd
as_here x n = x

-- the strings come one after the other from a place on, within a text of so many bytes
pub record AreStrings (at len : ℕ) (s : Strings) : Type 0 where
  pub delimiter : (s.delimiter ≢ 92) × (s.delimiter ≢ 10)
  pub from : at ≤ s.from
  pub middle : s.from ≤ s.middle
  pub to : s.middle < s.to
  pub inside : s.to < len

-- what was read is between a place and the end
abbrev pub IsItemAfter : ℕ → ℕ → ItemOrEnd → Type 0
IsItemAfter at len (Is item next) = (at < next) × (next ≤ len)
IsItemAfter at len Ends = ⊥

-- what is at a place: an item that ends after it, or the end
abbrev pub IsHere : List ℕ → ℕ → ItemOrEnd → Type 0
IsHere text at (Is item next) = (at < next) × (next ≤ length text)
IsHere text at Ends = IsEnd text at

abbrev pub is_no_memory : ExprReason → Bool
is_no_memory NoMemory = true
is_no_memory _ = false

-- the fault of a script, where the regular expression that begins at a place has this fault
abbrev pub fault_of : ℕ → ExprFault → ScriptFault
fault_of from f = if is_no_memory f.reason then NO_MEMORY else in_script from f

-- the text is cut to its end into these items and expressions, and no label or block is wrong
pub record IsJudged (text : List ℕ) (kind : Kind) (max_nodes : ℕ) (items : List Item)
    (expressions : List WrittenExpression) : Type 0 where
  pub to : ℕ
  pub judged : CutWithoutFault text kind max_nodes items expressions to

-- the flags with those that come after the place up to which they were read
abbrev pub with_rest : List ℕ → (empty : Bool) → Result (Flags × ℕ) ScriptFault → Result (Flags × ℕ) ScriptFault
with_rest text empty read = read >>= λ found. flags_from text empty found.0 0 found.1 (drop found.1 text)

-- the pieces of parts, and of bytes after them
abbrev pub pieces_with : List ReplacementPart → List ℕ → List Piece
pieces_with parts bytes = pieces_in parts ++ map literal bytes

-- whether each byte is one of these
unfoldable pub marks_of_bytes : List ℕ → List Bool
marks_of_bytes bs = map (is_among bs) (range_with_len 0 256)
