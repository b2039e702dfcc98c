-- Private to the proofs: no contract of a public item cites what is here.
-- An expression that is searched by passes, with its tables, and the room for passes.
use Rattle.std.specs.Prelude.{◌≡◌, ℕ, ◌+◌, ◌-◌, ◌*◌, ◌/◌, ◌<◌, ◌≤◌, ◌↔◌, Bool, true, List, length, IfSome, IsTrue}
use Rattle.sedre.specs.Tree.{WrittenExpression, expression_tree}
use Rattle.sedre.specs.Steps.{Takes, TakesAtLeast}
use Rattle.sedtext.specs.Caps.{IsReport}
use Rattle.sedtext.specs.Following.{LooksPast}
use Rattle.sedtext.specs.Groups.{SpansOfGroups, group_depth}
use Rattle.sedtext.specs.Spans.{SomeFound}
use Rattle.sedpass.specs.Prepared.{IsAnalysis}
use Rattle.sedpass.specs.Decide.{AreRoomy, AreTables, HasSpace, spans_in}
use Rattle.sedpass.specs.Table.{IsRoomy}
use Rattle.sedpass.specs.Walks.{EntersGroups}
use Rattle.sedpass.specs.declared.rows.Way.{Way}
use Rattle.sedmatch.specs.Direct.{IsDirect}
use Rattle.sedmatch.specs.declared.passes.Passes.{Passes}
use Rattle.sedmatch.specs.declared.scratch.Desk.{Desk}
use Rattle.sedmatch.specs.declared.table_matcher.SearchMethod.{SearchMethod}
use Rattle.sedmatch.specs.declared.table_matcher.SearchMethod.TheVariants.{Direct, Passes as ByPasses}

-- the way of passes from the text's end, of which each place's state is kept
abbrev pub reverse_any_way : Way
reverse_any_way = record { mirrored = true; all_starts = true }

-- what was found out is right, and the tables are for the expression, where it has some of its own
abbrev pub ArePasses : WrittenExpression → Passes → Type 0
ArePasses e p = IsAnalysis e p.analysis × IfSome p.own (AreTables e)

-- the expression is searched rightly so
abbrev pub IsSearchedBy : WrittenExpression → SearchMethod → Type 0
IsSearchedBy e (Direct form) = IsDirect e form
IsSearchedBy e (ByPasses p) = ArePasses e p.value

-- Passes can be made there over texts of at most `max_text` bytes, for expressions of at most `max_nodes` nodes, by the tables that
-- serve all.
pub record IsDesk (d : Desk) : Type 0 where
  pub space : HasSpace d.max_text (d.max_text / (d.shared.reverse_one.room - 1) + 1) d.max_nodes d.room
  pub reverse_any : IsRoomy d.max_nodes d.reverse_any × (d.reverse_any.way ≡ reverse_any_way)
  pub states : d.reverse_any.room ≡ d.shared.reverse_one.room
  pub shared : AreRoomy d.max_nodes d.shared
  pub few : length d.room.kept.edges ≤ 65536

-- they can be made there over this text, for this expression
abbrev pub IsDeskFor : WrittenExpression → List ℕ → Desk → Type 0
IsDeskFor e w d = IsDesk d × (length w ≤ d.max_text) × (length e.nodes ≤ d.max_nodes)

-- they still can, for the same texts and expressions
abbrev pub KeepsDesk : Desk → Desk → Type 0
KeepsDesk old new = IsDesk new × (new.max_text ≡ old.max_text) × (new.max_nodes ≡ old.max_nodes)

-- What one call shows of an expression in a text, in how many steps.

-- whether a match begins at the place or later
pub record AnswersMatch (e : WrittenExpression) (w : List ℕ) (from before after : ℕ) (answered : Bool) : Type 0 where
  pub exact : IsTrue answered ↔ SomeFound (expression_tree e) w from
  pub passes : IsTrue answered → LooksPast (expression_tree e) w from before after
  pub cost : Takes before after (64 * length e.nodes * (length w + 1))

-- the groups of a match that begins and ends at these places
pub record AnswersGroups (e : WrittenExpression) (w : List ℕ) (span : ℕ × ℕ) (before after : ℕ) (groups : SpansOfGroups) : Type 0 where
  pub report : IsReport (expression_tree e) w span.0 span.1 groups
  pub none_cost : e.groups ≡ 0 → after ≡ before
  pub cost : Takes before after (172 * length e.nodes * group_depth (expression_tree e) * (span.1 - span.0) + 2 * length e.nodes)
  pub deep : group_depth (expression_tree e) < length e.nodes
  pub counts : TakesAtLeast before after (spans_in groups - 1)
  pub entered : EntersGroups (expression_tree e) w span.0 span.1 before after
