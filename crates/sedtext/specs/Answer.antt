-- The answer of a search.
use Rattle.std.specs.Prelude.{◌≡◌, ℕ, ◌≤◌, List, length, Option, Some, None, IfSome, IfNone}
use Rattle.sedre.specs.Tree.{Tree}
use Rattle.sedtext.specs.declared.found.Found.{Found}
use Rattle.sedtext.specs.Spans.{IsLeftmostLongest as IsFound, NotFound}
use Rattle.sedtext.specs.Caps.{IsReport}
use Rattle.sedtext.specs.Groups.{span_of}
use Rattle.sedtext.specs.Matching.{leftmost_longest, reported_groups}

-- the span, if there is one, lies in a text of n bytes
abbrev pub SpanIn : ℕ → Option (ℕ × ℕ) → Type 0
SpanIn n None = Unit {0}
SpanIn n (Some span) = (span.0 ≤ span.1) × (span.1 ≤ n)

-- where the match begins and ends, if there is one
abbrev pub span_found : Option Found → Option (ℕ × ℕ)
span_found None = None
span_found (Some f) = Some (f.start, f.end)

-- the leftmost-longest match from the place on, within the text, or that there is none
abbrev pub SpanAnswer : Tree → List ℕ → ℕ → Option (ℕ × ℕ) → Type 0
SpanAnswer e w from r =
    IfSome r (λ f. IsFound e w from f.0 f.1)
    × IfNone r (NotFound e w from)
    × IfSome r (λ f. (f.0 ≤ f.1) × (f.1 ≤ length w))

-- the leftmost-longest match from the place on with its groups, each within the text, or that there is none
abbrev pub MatchAnswer : Tree → List ℕ → ℕ → Option Found → Type 0
MatchAnswer e w from r =
    IfSome r (λ f. IsFound e w from f.start f.end)
    × IfNone r (NotFound e w from)
    × IfSome r (λ f. IsReport e w f.start f.end f.groups)
    × IfSome r (λ f. (k : ℕ) → SpanIn (length w) (span_of f.groups k))

-- the answer is the one that is computed: the same span and the same groups, or none
abbrev pub IsComputed : Tree → List ℕ → ℕ → Option Found → Type 0
IsComputed e w from r = (span_found r ≡ leftmost_longest e w from) × IfSome r (λ f. f.groups ≡ reported_groups e w f.start f.end)
