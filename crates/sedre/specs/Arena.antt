-- What is always true of the nodes of an expression.
use Rattle.std.specs.Prelude.{◌≡◌, ◌≢◌, ℕ, ◌+◌, ◌-◌, ◌<◌, ◌≤◌, ◌⊎◌, List, length, slice_get, Some}
use Rattle.sedre.specs.Tree.{size, tree_at}
use Rattle.sedre.specs.declared.types.NodeId.{NodeId}
use Rattle.sedre.specs.declared.types.Node.{Node}
use Rattle.sedre.specs.declared.types.Node.TheVariants.{Seq, Alt, Group, Star, Opt}

-- c is a part of the node
abbrev pub IsPart : Node → ℕ → Type 0
IsPart (Seq a b) c = (a.index ≡ c) ⊎ (b.index ≡ c)
IsPart (Alt a b) c = (a.index ≡ c) ⊎ (b.index ≡ c)
IsPart (Group k a) c = a.index ≡ c
IsPart (Star a first) c = a.index ≡ c
IsPart (Opt a first) c = a.index ≡ c
IsPart other c = ⊥

-- its two parts are not the same
abbrev pub HasTwoParts : Node → Type 0
HasTwoParts (Seq a b) = a.index ≢ b.index
HasTwoParts (Alt a b) = a.index ≢ b.index
HasTwoParts other = Unit {0}

-- the parts of a node have smaller indices, and each node but the last is a part of one node, once
pub record IsArena (nodes : List Node) : Type 0 where
  pub nonempty : 0 < length nodes
  pub below : (x c : ℕ) (node : Node) → slice_get nodes x ≡ Some node → IsPart node c → c < x
  pub distinct : (x : ℕ) (node : Node) → slice_get nodes x ≡ Some node → HasTwoParts node
  pub once : (x y c : ℕ) (node other : Node) → slice_get nodes x ≡ Some node → slice_get nodes y ≡ Some other →
      IsPart node c → IsPart other c → x ≡ y
  pub each : (c : ℕ) → c + 1 < length nodes → (x : ℕ) × (node : Node) × (slice_get nodes x ≡ Some node) × IsPart node c

-- the tree at a node has no more nodes than there are up to it
abbrev pub SizesFit : List Node → Type 0
SizesFit nodes = (x : ℕ) → x < length nodes → size (tree_at nodes x) ≤ x + 1

-- the parts of the node x come directly before it, the left one's tree directly before the right one's
abbrev pub FollowsParts : List Node → ℕ → Node → Type 0
FollowsParts nodes x (Seq a b) = (a.index + size (tree_at nodes b.index) + 1 ≡ x) × (b.index + 1 ≡ x)
FollowsParts nodes x (Alt a b) = (a.index + size (tree_at nodes b.index) + 1 ≡ x) × (b.index + 1 ≡ x)
FollowsParts nodes x (Group k a) = a.index + 1 ≡ x
FollowsParts nodes x (Star a first) = a.index + 1 ≡ x
FollowsParts nodes x (Opt a first) = a.index + 1 ≡ x
FollowsParts nodes x other = Unit {0}

-- so the nodes of each tree are a range of indices
abbrev pub AreRanges : List Node → Type 0
AreRanges nodes = (x : ℕ) (node : Node) → slice_get nodes x ≡ Some node → FollowsParts nodes x node

-- the groups are numbered from 1 up to the given number
abbrev pub GroupsWithin : List Node → ℕ → Type 0
GroupsWithin nodes groups = (x k : ℕ) (a : NodeId) → slice_get nodes x ≡ Some (Group k a) → (1 ≤ k) × (k ≤ groups)

-- what is always true of an expression
pub record IsExpr (nodes : List Node) (groups : ℕ) : Type 0 where
  pub arena : IsArena nodes
  pub sizes : SizesFit nodes
  pub ranges : AreRanges nodes
  pub numbers : GroupsWithin nodes groups
  pub whole : size (tree_at nodes (length nodes - 1)) ≡ length nodes
  pub few : length nodes ≤ 65536
