-- Private to the proofs: no contract that `sedmatch` makes public cites what is here.
-- From which places a match can begin, as hints show it: by how all matches begin, and by a literal that they contain.
use Rattle.std.specs.Prelude.{◌≡◌, ℕ, ◌<◌, ◌≤◌, List, Bool, length, Option, Some, None, IsTrue}
use Rattle.memchr.specs.Find.{OccursAt}
use Rattle.sedre.specs.Tree.{Tree}
use Rattle.sedtext.specs.Bytes.{MemberAt}
use Rattle.sedtext.specs.Sieve.{PassesSieve}
use Rattle.sedtext.specs.Spans.{Matches, NotFound}
use Rattle.sedtext.specs.declared.hints.Begins.{Begins}
use Rattle.sedtext.specs.declared.hints.Begins.TheVariants.{Anyhow, AtStart, With, Before}
use Rattle.sedtext.specs.declared.hints.Hints.{Hints}
use Rattle.sedtext.specs.declared.hints.RequiredLiteral.{RequiredLiteral}

-- no place from p up to but not including q begins a match
abbrev pub NoneIn : Tree → List ℕ → ℕ → ℕ → Type 0
NoneIn e w p q = (i k : ℕ) → p ≤ i → i < q → Matches e w i k → ⊥

-- a place from p on before which no match begins, or that none begins from p on
abbrev pub Narrowed : Tree → List ℕ → ℕ → Option ℕ → Type 0
Narrowed e w p None = NotFound e w p
Narrowed e w p (Some q) = (p ≤ q) × (q ≤ length w) × NoneIn e w p q

-- a span that begins so can begin at the place
abbrev pub CanBegin : Begins → List ℕ → ℕ → Type 0
CanBegin Anyhow w i = Unit {0}
CanBegin AtStart w i = i ≡ 0
CanBegin (With s) w i = MemberAt s w i
CanBegin (Before s) w i = PassesSieve s w i

-- all spans of the expression begin so
abbrev pub AllBegin : Tree → Begins → Type 0
AllBegin e begins = (w : List ℕ) (i j : ℕ) → Matches e w i j → CanBegin begins w i

-- where the expression has a match, these bytes occur at its beginning or later; at it, if they are a prefix
abbrev pub Requires : Tree → List ℕ → Bool → Type 0
Requires e literal is_prefix = (w : List ℕ) (i j : ℕ) → i ≤ length w → Matches e w i j → (k : ℕ) × (i ≤ k) × (IsTrue is_prefix → k ≡ i) × OccursAt w literal k

-- the literal, if there is one, is required so
abbrev pub IsRequired : Tree → Option RequiredLiteral → Type 0
IsRequired e None = Unit {0}
IsRequired e (Some n) = Requires e n.finder n.is_prefix

-- what is known of the expression's matches is right
pub record AreHints (e : Tree) (h : Hints) : Type 0 where
  pub begins : AllBegin e h.begins
  pub required : IsRequired e h.required
