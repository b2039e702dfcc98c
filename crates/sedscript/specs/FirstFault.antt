-- The first fault of a script.
use Rattle.std.specs.Prelude.{◌≡◌, ℕ, List, length, Some, ◌+◌, Err}
use Rattle.sedre.specs.declared.types.Kind.{Kind}
use Rattle.sedre.specs.Tree.{WrittenExpression}
use Rattle.sedre.specs.declared.types.ExprFault.{ExprFault}
use Rattle.sedre.specs.Grammar.{ExprFaulty}
use Rattle.sedscript.specs.Types.{ScriptFault, Item, Expression}
use Rattle.sedscript.specs.Items.{item_at, PatternExtent, Reading, plainly, expression}
use Rattle.sedscript.specs.Script.{target_fault, CutScript, IsEnd, IsRead}
use Rattle.sedscript.specs.Bytes.{bytes_between}

-- the fault of a script, where the regular expression that begins at a place has this fault
abbrev pub in_script : ℕ → ExprFault → ScriptFault
in_script from f = record { place = from + f.place; reason = Expression f }

-- the fault of what is read: that of the first expression that has one, or else that of what is read after them all
pub data Fails (text : List ℕ) (kind : Kind) (max_nodes : ℕ) {A : Type 0} : Reading A → ScriptFault → Type 0 where
  own : {f : ScriptFault} → Fails text kind max_nodes (plainly (Err f)) f
  no_expression : {p : PatternExtent} {k : ℕ → Reading A} {f : ExprFault} →
      ExprFaulty kind (Some p.delimiter) (bytes_between text p.from p.to) max_nodes f.place f.reason →
      Fails text kind max_nodes (expression p k) (in_script p.from f)
  later : {p : PatternExtent} {k : ℕ → Reading A} {f : ScriptFault} (e : WrittenExpression) →
      IsRead text kind max_nodes p e → Fails text kind max_nodes (k e.groups) f →
      Fails text kind max_nodes (expression p k) f

-- the first fault of the text; its place, and which fault comes first, are this project's own
pub data Faulty (text : List ℕ) (kind : Kind) (max_nodes : ℕ) : ScriptFault → Type 0 where
  -- that of the item after these, which have none
  early : {f : ScriptFault} (items : List Item) (es : List WrittenExpression) (to : ℕ) →
      CutScript text kind max_nodes 0 0 items es to → Fails text kind max_nodes (item_at text (length es) to) f →
      Faulty text kind max_nodes f
  -- that of the labels and blocks of a text which is cut to its end
  afterwards : {f : ScriptFault} (items : List Item) (es : List WrittenExpression) (to : ℕ) →
      CutScript text kind max_nodes 0 0 items es to → IsEnd text to → target_fault text items ≡ Some f →
      Faulty text kind max_nodes f
