-- Private to the proofs: no contract that `sedmatch` makes public cites what is here.
-- An expression as a chain of links: what its spans are made of, one after another.
use Rattle.std.specs.Prelude.{◌≡◌, ℕ, ◌+◌, ◌<◌, ◌≤◌, ◌⊎◌, ◌↔◌, List, [], ◌∷◌, ◌++◌, drop, length}
use Rattle.memchr.specs.Find.{OccursAt}
use Rattle.std.specs.List.{All}
use Rattle.sedre.specs.Tree.{Tree}
use Rattle.sedre.specs.declared.types.Node.{Node}
use Rattle.sedtext.specs.Bytes.{MemberAt}
use Rattle.sedtext.specs.Reach.{HasSpan}
use Rattle.sedtext.specs.Runs.{SetRepeats}
use Rattle.sedtext.specs.Spans.{Matches}
use Rattle.sedtext.specs.declared.links.Link.{Link}
use Rattle.sedtext.specs.declared.links.Link.TheVariants.{Byte, Run, Start, End, Either, Other}

-- the link leads from i to j
abbrev pub LinkLeads : List Node → List ℕ → Link → ℕ → ℕ → Type 0
LinkLeads nodes w (Byte s) i j = MemberAt s w i × (j ≡ i + 1)
LinkLeads nodes w (Run s) i j = SetRepeats s w i j
LinkLeads nodes w Start i j = (i ≡ 0) × (j ≡ 0)
LinkLeads nodes w End i j = (i ≡ length w) × (j ≡ length w)
LinkLeads nodes w (Either x y) i j = HasSpan nodes w x i j ⊎ HasSpan nodes w y i j
LinkLeads nodes w (Other x) i j = HasSpan nodes w x i j

-- the links lead from i to j, one after another
abbrev pub ChainLeads : List Node → List ℕ → List Link → ℕ → ℕ → Type 0
ChainLeads nodes w [] i j = i ≡ j
ChainLeads nodes w (l ∷ ls) i j = (k : ℕ) × LinkLeads nodes w l i k × ChainLeads nodes w ls k j

-- the alternatives of a link are nodes
abbrev pub IsWithin : ℕ → Link → Type 0
IsWithin n (Either x y) = (x < n) × (y < n)
IsWithin n other = Unit {0}

-- the expression's chain: its spans are those of the links, and the alternatives of a link are nodes of the expression
pub record IsChain (nodes : List Node) (e : Tree) (links : List Link) : Type 0 where
  pub spans : (w : List ℕ) (i j : ℕ) → Matches e w i j ↔ ChainLeads nodes w links i j
  pub within : All (IsWithin (length nodes)) links

-- the links lead as those before do, and the node after them; alternatives of theirs are nodes
pub record IsContinuation (nodes : List Node) (before : List Link) (x : ℕ) (links : List Link) : Type 0 where
  pub spans : (w : List ℕ) (i j : ℕ) → ChainLeads nodes w (before ++ (Other x ∷ [])) i j ↔ ChainLeads nodes w links i j
  pub within : All (IsWithin (length nodes)) links

-- the links lead as one of the two chains does, of which alternatives are nodes
pub record AreAlternatives (nodes : List Node) (links left right : List Link) : Type 0 where
  pub spans : (w : List ℕ) (i j : ℕ) → ChainLeads nodes w links i j ↔ (ChainLeads nodes w left i j ⊎ ChainLeads nodes w right i j)
  pub within : All (IsWithin (length nodes)) left × All (IsWithin (length nodes)) right

-- from the link q on the chain leads over the bytes, and then on as its links do that follow after as many
abbrev pub IsLiteral : List Link → ℕ → List ℕ → Type 0
IsLiteral links q bytes = (q + length bytes ≤ length links) × ((nodes : List Node) (w : List ℕ) (i j : ℕ) → i ≤ length w →
    ChainLeads nodes w (drop q links) i j ↔ (OccursAt w bytes i × ChainLeads nodes w (drop (q + length bytes) links) (i + length bytes) j))
