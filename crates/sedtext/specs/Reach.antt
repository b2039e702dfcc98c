-- Private to the proofs: no contract that `sedmatch` makes public cites what is here.
-- At which places of a text the nodes of an expression can begin and end, in matches that begin at one of some starts.
use Rattle.std.specs.Prelude.{◌≡◌, ℕ, ◌<◌, ◌≤◌, Bool, List, slice_get, Option, Some, None}
use Rattle.sedre.specs.Tree.{Tree, tree_at}
use Rattle.sedtext.specs.Spans.{Matches}
use Rattle.sedre.specs.Arena.{IsPart}
use Rattle.sedre.specs.declared.types.Node.{Node}
use Rattle.sedre.specs.declared.types.NodeId.{NodeId}
use Rattle.sedre.specs.declared.types.Node.TheVariants.{Seq, Star}

-- c is a part that begins where the node does
abbrev pub BeginsWith : Node → ℕ → Type 0
BeginsWith (Seq a b) c = a.index ≡ c
BeginsWith node c = IsPart node c

-- the node x matches i..j
abbrev pub HasSpan : List Node → List ℕ → ℕ → ℕ → ℕ → Type 0
HasSpan nodes w x i j = Matches (tree_at nodes x) w i j

-- the places from which a match may begin, from the first to the last
pub record Starts : Type 0 where
  pub first : ℕ
  pub last : ℕ

-- the place is one of the starts
abbrev pub IsStart : Starts → ℕ → Type 0
IsStart s i = (s.first ≤ i) × (i ≤ s.last)

-- the one start
abbrev pub one_start : ℕ → Starts
one_start start = record { first = start; last = start }

-- the starts from one to another
abbrev pub starts_to : ℕ → ℕ → Starts
starts_to first last = record { first = first; last = last }

-- in a match of the node r from one of the starts, the node can begin at the place
pub data Enters (nodes : List Node) (w : List ℕ) (r : ℕ) (s : Starts) : ℕ → ℕ → Type 0 where
  at_root : (x i : ℕ) → x ≡ r → IsStart s i → Enters nodes w r s x i
  with_whole : (y c i : ℕ) (node : Node) → slice_get nodes y ≡ Some node → BeginsWith node c → Enters nodes w r s y i → Enters nodes w r s c i
  after_left : (y c i j : ℕ) (a b : NodeId) → slice_get nodes y ≡ Some (Seq a b) → b.index ≡ c → Enters nodes w r s y i → HasSpan nodes w a.index i j → Enters nodes w r s c j
  again : (y c i j : ℕ) (a : NodeId) (first : Bool) → slice_get nodes y ≡ Some (Star a first) → a.index ≡ c → Enters nodes w r s y i → HasSpan nodes w y i j → Enters nodes w r s c j

-- in a match from one of the starts, the node can end at j after at least one byte
abbrev pub CanEnd : List Node → List ℕ → ℕ → Starts → ℕ → ℕ → Type 0
CanEnd nodes w r s x j = (i : ℕ) × (i < j) × Enters nodes w r s x i × HasSpan nodes w x i j

-- the node r matches from one of the starts to j
abbrev pub SomeSpan : List Node → List ℕ → ℕ → Starts → ℕ → Type 0
SomeSpan nodes w r s j = (i : ℕ) × IsStart s i × HasSpan nodes w r i j

-- the longest span from i, if there is one
abbrev pub IsLongestFrom : Tree → List ℕ → ℕ → Option ℕ → Type 0
IsLongestFrom e w i None = (k : ℕ) → Matches e w i k → ⊥
IsLongestFrom e w i (Some j) = Matches e w i j × ((k : ℕ) → Matches e w i k → k ≤ j)
