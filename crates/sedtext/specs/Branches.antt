-- Private to the proofs: no contract that `sedmatch` makes public cites what is here.
-- The alternatives with which an expression begins, as chains, and which bytes are at a fixed distance after the beginning of every span.
use Rattle.std.specs.Prelude.{Vec, ℕ, ◌+◌, ◌⊎◌, Bool, List, [], ◌∷◌}
use Rattle.sedre.specs.Tree.{Tree}
use Rattle.sedre.specs.declared.types.Node.{Node}
use Rattle.sedtext.specs.Bytes.{MemberAt}
use Rattle.sedtext.specs.Links.{ChainLeads}
use Rattle.sedtext.specs.Spans.{Matches}
use Rattle.sedtext.specs.declared.links.Link.{Link}
use Rattle.sedtext.specs.declared.links.Link.TheVariants.{Byte}

-- the chain leads on from the place
abbrev pub LeadsFrom : List Node → List ℕ → List Link → ℕ → Type 0
LeadsFrom nodes w links i = (k : ℕ) × ChainLeads nodes w links i k

-- one of the chains does
abbrev pub AnyLeads : {A : Type 0} → List Node → List ℕ → List (Vec Link A) → ℕ → Type 0
AnyLeads nodes w [] i = ⊥
AnyLeads nodes w (c ∷ cs) i = LeadsFrom nodes w c.items i ⊎ AnyLeads nodes w cs i

-- where a span of the expression begins one of the chains leads on
abbrev pub AreBranches : {A : Type 0} → List Node → Tree → List (Vec Link A) → Type 0
AreBranches nodes e chains = (w : List ℕ) (i j : ℕ) → Matches e w i j → AnyLeads nodes w chains i

-- the link is a byte
abbrev pub IsOneByte : Link → Type 0
IsOneByte (Byte s) = Unit {0}
IsOneByte other = ⊥

-- a byte of the set is `offset` bytes after the beginning of each span of the expression
abbrev pub AllHave : Tree → ℕ → List Bool → Type 0
AllHave e offset s = (w : List ℕ) (i j : ℕ) → Matches e w i j → MemberAt s w (i + offset)
