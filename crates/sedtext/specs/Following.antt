-- All occurrences in one text, one after another (XCU sed, "s/BRE/replacement/flags"): which span comes next, and where it lies.
use Rattle.std.specs.Prelude.{ℕ, ◌+◌, ◌-◌, ◌<◌, ◌≤◌, List, length, Option, Some, None}
use Rattle.sedre.specs.Steps.{TakesAtLeast}
use Rattle.sedre.specs.Tree.{Tree}
use Rattle.sedtext.specs.Matching.{next_match}
use Rattle.sedtext.specs.Spans.{Matches}

-- the span of the next match in a text of n bytes, after one that ended at a place, where there was one
abbrev pub next_span : (ℕ → Option (ℕ × ℕ)) → ℕ → Option ℕ → Option (ℕ × ℕ)
next_span search n last = next_match (λ f. f) search n last

-- the place, if there is one, is in a text of n bytes, or its end
abbrev pub EndsWithin : ℕ → Option ℕ → Type 0
EndsWithin n None = Unit {0}
EndsWithin n (Some q) = q ≤ n

-- the span, if there is one, ends after the place, if there is one, and begins there or later
abbrev pub LiesAfter : Option ℕ → Option (ℕ × ℕ) → Type 0
LiesAfter (Some q) (Some f) = (q ≤ f.0) × (q + 1 ≤ f.1)
LiesAfter last found = Unit {0}

-- the span lies in a text of n bytes, after the last occurrence
abbrev pub LiesOn : ℕ → Option ℕ → ℕ × ℕ → Type 0
LiesOn n last f = (f.0 ≤ f.1) × (f.1 ≤ n) × LiesAfter last (Some f)

-- the span is one that the expression matches, and lies in the text, after the last occurrence
abbrev pub OccursAfter : Tree → List ℕ → Option ℕ → ℕ × ℕ → Type 0
OccursAfter e w last f = Matches e w f.0 f.1 × LiesOn (length w) last f

-- the expression has a match that ends before the text does: so the search for one goes over the text from its beginning
abbrev pub CanEndEarly : Tree → Type 0
CanEndEarly e = (w : List ℕ) × (i : ℕ) × (j : ℕ) × (j < length w) × Matches e w i j

-- how many bytes there are up to the end of an occurrence, or between the end of the last one, or the byte that is passed over there,
-- and that end
abbrev pub bytes_passed : Option ℕ → ℕ × ℕ → ℕ
bytes_passed None f = f.1
bytes_passed (Some q) f = f.1 - (q + 1)

-- looks counted from the one number to the other pass over some match that begins at place p or later: one look at least for each of its
-- bytes and, where the expression can match before a text's end, for each byte from p to the match's end
pub record LooksPast (e : Tree) (w : List ℕ) (p before after : ℕ) : Type 0 where
  pub start : ℕ
  pub end : ℕ
  pub later : p ≤ start
  pub within : end ≤ length w
  pub spans : Matches e w start end
  pub bytes : TakesAtLeast before after (end - start)
  pub passed : CanEndEarly e → TakesAtLeast before after (end - p)
