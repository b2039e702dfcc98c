-- The tree at a node is made of the trees at its parts.
use Rattle.std.proofs.Common.{◌≡◌, ℕ, zero, suc, ◌<◌, List, Option, Some, None, refl, inl, inr, arith}
use Rattle.std.specs.Prelude.{slice_get}
use Rattle.sedre.specs.Tree.{Tree, null_string, tree_of, tree_within, tree_at}
use Rattle.std.specs.Option.{option_map_or}
use Rattle.sedre.specs.Arena.{IsArena, IsPart}
use Rattle.sedre.specs.declared.types.Node.{Node}
use Rattle.sedre.specs.declared.types.Node.TheVariants.{Seq, Alt, Group, Star, Opt}

-- two ways to give the parts' trees agree at the parts of the node
tree_of-same : (f g : ℕ → Tree) (node : Node) → ((c : ℕ) → IsPart node c → f c ≡ g c) → tree_of f node ≡ tree_of g node
tree_of-same f g (Seq a b) same = rw (same a.index (inl refl), same b.index (inr refl))
tree_of-same f g (Alt a b) same = rw (same a.index (inl refl), same b.index (inr refl))
tree_of-same f g (Group k a) same = rw (same a.index refl)
tree_of-same f g (Star a first) same = rw (same a.index refl)
tree_of-same f g (Opt a first) same = rw (same a.index refl)
tree_of-same f g _ same = refl

node-same : (f g : ℕ → Tree) (node : Option Node) → ((n : Node) (c : ℕ) → node ≡ Some n → IsPart n c → f c ≡ g c) → option_map_or (tree_of f) node null_string ≡ option_map_or (tree_of g) node null_string
node-same f g None same = refl
node-same f g (Some n) same = tree_of-same f g n (λ c part. same n c refl part)

-- any depth above the node's place gives the same tree
pub tree_within-enough : (nodes : List Node) → IsArena nodes → (m n x : ℕ) → x < m → x < n → tree_within m nodes x ≡ tree_within n nodes x
unfolding tree_within
tree_within-enough nodes arena zero n x low high = absurd (omega arith)
tree_within-enough nodes arena (suc m) zero x low high = absurd (omega arith)
tree_within-enough nodes arena (suc m) (suc n) x low high =
    node-same (tree_within m nodes) (tree_within n nodes) (slice_get nodes x)
    (λ node c is part.
    let below : c < x = arena.below x c node is part in
    tree_within-enough nodes arena m n c (omega arith) (omega arith))

-- the tree at a node is made of the trees at its parts
pub tree_at-node : (nodes : List Node) (x : ℕ) (node : Node) → IsArena nodes → slice_get nodes x ≡ Some node → tree_at nodes x ≡ tree_of (tree_at nodes) node
unfolding tree_at tree_within
tree_at-node nodes x node arena is =
    rw is
    (tree_of-same (tree_within x nodes) (tree_at nodes) node
    (λ c part.
    let below : c < x = arena.below x c node is part in
    tree_within-enough nodes arena x (suc c) c below (omega arith)))
