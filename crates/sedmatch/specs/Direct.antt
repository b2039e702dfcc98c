-- Private to the proofs: no contract that `sedmatch` makes public cites what is here.
-- Expressions whose matches a look at the text finds.
use Rattle.std.specs.Prelude.{◌≡◌, ℕ, ◌+◌, ◌-◌, ◌≤◌, ◌↔◌, List, length}
use Rattle.memchr.specs.Find.{OccursAt}
use Rattle.sedre.specs.Arena.{IsExpr}
use Rattle.sedre.specs.Tree.{WrittenExpression, expression_tree, Tree}
use Rattle.sedtext.specs.Spans.{Matches}
use Rattle.sedtext.specs.FixedRuns.{IsFixedRun}
use Rattle.sedmatch.specs.Stretches.{StretchSpans, bytes_sought}
use Rattle.sedmatch.specs.declared.direct.DirectForm.{DirectForm}
use Rattle.sedmatch.specs.declared.direct.DirectForm.TheVariants.{Stretch, FixedRun, Literal}

-- what matches from i to j
abbrev pub FormSpans : DirectForm → List ℕ → ℕ → ℕ → Type 0
FormSpans (Stretch s) w i j = StretchSpans s s.ends w i j
FormSpans (FixedRun members count) w i j = IsFixedRun members count w i j
FormSpans (Literal literal) w i j = OccursAt w literal i × (j ≡ i + length literal)

-- the spans of the expression are these
abbrev pub SpannedAs : Tree → DirectForm → Type 0
SpannedAs e form = (w : List ℕ) (i j : ℕ) → i ≤ length w → Matches e w i j ↔ FormSpans form w i j

-- how many bytes are looked at at least where such a match is found from p on
abbrev pub bytes_looked_at : DirectForm → ℕ → ℕ × ℕ → ℕ
bytes_looked_at (Stretch s) p f = bytes_sought s.ends p f
bytes_looked_at other p f = f.1 - p

-- the expression is of this form: its spans are those of the form, and it has no groups
abbrev pub IsDirect : WrittenExpression → DirectForm → Type 0
IsDirect e form = SpannedAs (expression_tree e) form × (e.groups ≡ 0) × IsExpr e.nodes e.groups
