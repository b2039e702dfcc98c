-- Nodes of an expression, and their parts.
use Rattle.sedtext.proofs.Words.{◌+◌, ◌<◌, ◌∷◌, ◌≡◌, ◌≤◌, [], Alt, arith, Group, inl, inr, IsArena, length, List, Node, null_string, Opt}
use Rattle.sedtext.proofs.Words.{parts_of, PartsBelow, refl, Seq, size, slice_get, Some, Star, suc, Tree, tree_at, tree_at-node, zero, ℕ}

-- the sizes of the trees at the nodes
abbrev pub total_size : List Node → List ℕ → ℕ
total_size nodes [] = 0
total_size nodes (x ∷ xs) = size (tree_at nodes x) + total_size nodes xs

-- there is a node at each place of the list
pub node_at : (nodes : List Node) (x : ℕ) → x < length nodes → (node : Node) × (slice_get nodes x ≡ Some node)
node_at [] x inside = absurd (omega arith)
node_at (node ∷ nodes) zero inside = (node, refl)
node_at (node ∷ nodes) (suc x) inside = node_at nodes x (omega arith)

-- the parts of the node at x are below anything from x on
pub parts_below : (nodes : List Node) → IsArena nodes → (x : ℕ) (node : Node) → slice_get nodes x ≡ Some node → (n : ℕ) → x ≤ n → PartsBelow n node
parts_below nodes arena x (Seq a b) is n le = (omega (arith, arena.below x a.index (Seq a b) is (inl refl)), omega (arith, arena.below x b.index (Seq a b) is (inr refl)))
parts_below nodes arena x (Alt a b) is n le = (omega (arith, arena.below x a.index (Alt a b) is (inl refl)), omega (arith, arena.below x b.index (Alt a b) is (inr refl)))
parts_below nodes arena x (Group k a) is n le = let low = arena.below x a.index (Group k a) is refl in omega arith
parts_below nodes arena x (Star a first) is n le = let low = arena.below x a.index (Star a first) is refl in omega arith
parts_below nodes arena x (Opt a first) is n le = let low = arena.below x a.index (Opt a first) is refl in omega arith
parts_below nodes arena x _ is n le = tt

-- a tree has a node
pub size-pos : (t : Tree) → 1 ≤ size t
size-pos null_string = omega arith
size-pos _ = omega arith

-- and one more than its parts
pub size-parts : (nodes : List Node) (arena : IsArena nodes) (x : ℕ) (node : Node) → slice_get nodes x ≡ Some node → size (tree_at nodes x) ≡ 1 + total_size nodes (parts_of node)
size-parts nodes arena x node is = grind (arith, tree_at-node nodes x node arena is)
