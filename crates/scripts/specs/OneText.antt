-- Two scripts in one text, with a newline between them (XCU sed, Options: so the words of -e are put together).
use Rattle.std.specs.Prelude.{◌≡◌, ℕ, Bool, true, false, not, Some, List, [], ◌∷◌, length, nat_eq, nat_lt}
use Rattle.std.specs.List.{ends_with, list_all, list_any}
use Rattle.std.specs.Str.{bytes_eq}
use Rattle.sedre.specs.Tree.{WrittenExpression}
use Rattle.sedre.specs.declared.types.Kind.{Kind}
use Rattle.sedre.specs.declared.types.Kind.TheVariants.{Basic}
use Rattle.sedscript.specs.declared.types.Command.{Command}
use Rattle.sedscript.specs.declared.types.Action.{Action}
use Rattle.sedscript.specs.declared.types.Action.TheVariants.{Branch}
use Rattle.sedscript.specs.declared.items.Item.{Item}
use Rattle.sedscript.specs.Script.{label_in, CutScript, IsEnd, Means}
use Rattle.sedscript.specs.Program.{Program}
use Rattle.scripts.specs.InTurn.{BreaksNoLine, EachOnlyEdits}

-- `b` and `t` lead to one of the commands, and not to the end
abbrev pub leads_inside : Program → Action → Bool
leads_inside p (Branch u to) = nat_lt to (length p.commands)
leads_inside p other = true

-- No branch leads to the end of the script: without a label it would lead past the second of two. A label at the end is such an end
-- too, since to the commands the two are the same.
abbrev pub EachLeadsInside : Program → Type 0
EachLeadsInside p = list_all (λ (c : Command). leads_inside p c.action) p.commands ≡ true

-- none of the second names is one of the first
abbrev pub apart : List (List ℕ) → List (List ℕ) → Bool
apart ns ms = list_all (λ m. not (list_any (bytes_eq m) ns)) ms

-- No file is read by both or written by both: in the script of both it would have one number.
pub record ShareNoFile (p q : Program) : Type 0 where
  pub read : apart p.rfiles q.rfiles ≡ true
  pub write : apart p.wfiles q.wfiles ≡ true

-- a name is a label in a text, which is cut to its end
pub record HasLabel (kind : Kind) (max_nodes : ℕ) (text name : List ℕ) : Type 0 where
  pub items : List Item
  pub expressions : List WrittenExpression
  pub to : ℕ
  pub place : ℕ
  pub cut : CutScript text kind max_nodes 0 0 items expressions to
  pub ends : IsEnd text to
  pub label : label_in text name 0 items ≡ Some place

-- No name is a label in both texts: in the text of both it would be there twice, which is a fault (this project's own).
abbrev pub ShareNoLabel : Kind → (max_nodes : ℕ) (a b : List ℕ) → Type 0
ShareNoLabel kind max_nodes a b = (name : List ℕ) → HasLabel kind max_nodes a name → HasLabel kind max_nodes b name → ⊥

-- Two texts of scripts that only edit their lines, of which the first breaks no line and the second counts none, and no name is a
-- label in both.
pub record EditInTurn (a b : List ℕ) : Type 0 where
  pub p : Program
  pub q : Program
  pub first : Means a Basic 65536 p
  pub second : Means b Basic 65536 q
  pub first_edits : EachOnlyEdits true p
  pub second_edits : EachOnlyEdits false q
  pub breaks_none : BreaksNoLine p
  pub labels : ShareNoLabel Basic 65536 a b

-- a word of -e that doesn't end with a newline, so that one is put behind it
abbrev pub LacksNewline : List ℕ → Type 0
LacksNewline part = ends_with nat_eq part (10 ∷ []) ≡ false
