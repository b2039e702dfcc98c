-- Private to the proofs: no contract of a public item cites what is here.
-- Nodes as numbers: what the table keeps of each, and the node that this stands for.
use Rattle.std.specs.Prelude.{◌≡◌, ◌<◌, ◌≤◌, ℕ, ◌+◌, ◌-◌, List, [], ◌∷◌, ◌++◌, Bool, length, slice_get}
use Rattle.std.specs.Prelude.{slice_index_or, Option, Some}
use Rattle.std.specs.BTreeMap.{BTreeMap, get_by}
use Rattle.std.specs.Cmp.Lexicographic.{slice_cmp}
use Rattle.std.specs.Ordering.{nat_cmp}
use Rattle.sedre.specs.Words.{words_of}
use Rattle.sedre.specs.declared.types.NodeId.{NodeId}
use Rattle.sedre.specs.declared.types.Node.{Node}
use Rattle.sedre.specs.declared.types.Node.TheVariants as node
use Rattle.sedre.specs.declared.packed.PackedNode.{PackedNode}
use Rattle.sedre.specs.declared.packed.Shape.{Shape}
use Rattle.sedre.specs.declared.packed.Shape.TheVariants as shape

abbrev pub id : ℕ → NodeId
id n = record { index = n }

-- the node at the index x: its parts are so many places before it
abbrev pub node_of : List (List Bool) → ℕ → Shape → ℕ → ℕ → Node
node_of sets x shape.Empty left right = node.Empty
node_of sets x shape.Set left right = node.Set (slice_index_or sets left [])
node_of sets x shape.Begin left right = node.Begin
node_of sets x shape.End left right = node.End
node_of sets x shape.Seq left right = node.Seq (id (x - left)) (id (x - right))
node_of sets x shape.Alt left right = node.Alt (id (x - left)) (id (x - right))
node_of sets x shape.Group left right = node.Group left (id (x - right))
node_of sets x (shape.Star first) left right = node.Star (id (x - right)) first
node_of sets x (shape.Opt first) left right = node.Opt (id (x - right)) first

abbrev pub node_at : List (List Bool) → ℕ → PackedNode → Node
node_at sets x e = node_of sets x e.shape e.left e.right

-- the nodes of entries, the first of which has the index x
abbrev pub nodes_from : List (List Bool) → ℕ → List PackedNode → List Node
nodes_from sets x [] = []
nodes_from sets x (e ∷ es) = node_at sets x e ∷ nodes_from sets (x + 1) es

-- a set's number is that of a set, and parts are among the nodes
abbrev pub FitsShape : List (List Bool) → ℕ → Shape → ℕ → ℕ → Type 0
FitsShape sets x shape.Empty left right = Unit {0}
FitsShape sets x shape.Set left right = left < length sets
FitsShape sets x shape.Begin left right = Unit {0}
FitsShape sets x shape.End left right = Unit {0}
FitsShape sets x shape.Seq left right = (left ≤ x) × (right ≤ x)
FitsShape sets x shape.Alt left right = (left ≤ x) × (right ≤ x)
FitsShape sets x other left right = right ≤ x

abbrev pub NodeFits : List (List Bool) → ℕ → PackedNode → Type 0
NodeFits sets x e = FitsShape sets x e.shape e.left e.right

abbrev pub FitFrom : List (List Bool) → ℕ → List PackedNode → Type 0
FitFrom sets x [] = Unit {0}
FitFrom sets x (e ∷ es) = NodeFits sets x e × FitFrom sets (x + 1) es

-- what is kept of a node at the index x, whose set has this number
abbrev pub entry_with : Shape → ℕ → ℕ → PackedNode
entry_with s left right = record { shape = s; left = left; right = right }

abbrev pub entry_of : ℕ → ℕ → Node → PackedNode
entry_of x number node.Empty = entry_with shape.Empty 0 0
entry_of x number (node.Set set) = entry_with shape.Set number 0
entry_of x number node.Begin = entry_with shape.Begin 0 0
entry_of x number node.End = entry_with shape.End 0 0
entry_of x number (node.Seq a b) = entry_with shape.Seq (x - a.index) (x - b.index)
entry_of x number (node.Alt a b) = entry_with shape.Alt (x - a.index) (x - b.index)
entry_of x number (node.Group k a) = entry_with shape.Group k (x - a.index)
entry_of x number (node.Star a first) = entry_with (shape.Star first) 0 (x - a.index)
entry_of x number (node.Opt a first) = entry_with (shape.Opt first) 0 (x - a.index)

-- the number that the map has by the words of a set
abbrev pub number_of_set : BTreeMap (List ℕ) ℕ → List Bool → Option ℕ
number_of_set numbers set = get_by (slice_cmp nat_cmp (words_of set)) numbers

-- the number is that of the node's set
abbrev pub HasNumber : List (List Bool) → ℕ → Node → Type 0
HasNumber sets number (node.Set set) = slice_get sets number ≡ Some set
HasNumber sets number other = Unit {0}

-- sets are only added
abbrev pub AddsSets : List (List Bool) → List (List Bool) → Type 0
AddsSets old new = (more : List (List Bool)) × (new ≡ old ++ more)

-- the node's parts come before the index x
abbrev pub PartsBelow : ℕ → Node → Type 0
PartsBelow x (node.Seq a b) = (a.index < x) × (b.index < x)
PartsBelow x (node.Alt a b) = (a.index < x) × (b.index < x)
PartsBelow x (node.Group k a) = a.index < x
PartsBelow x (node.Star a first) = a.index < x
PartsBelow x (node.Opt a first) = a.index < x
PartsBelow x other = Unit {0}

-- the same node with its parts so many places further on
abbrev pub shifted : ℕ → Node → Node
shifted d (node.Seq a b) = node.Seq (id (a.index + d)) (id (b.index + d))
shifted d (node.Alt a b) = node.Alt (id (a.index + d)) (id (b.index + d))
shifted d (node.Group k a) = node.Group k (id (a.index + d))
shifted d (node.Star a first) = node.Star (id (a.index + d)) first
shifted d (node.Opt a first) = node.Opt (id (a.index + d)) first
shifted d other = other
