-- An expression without groups leaves all groups as they are.
use Rattle.sedtext.proofs.Words.{◌<◌, ◌≡◌, any_copies, arith, Captures, either_of, forget, grouped, groups_after, IsExpr, length, List, Matches}
use Rattle.sedtext.proofs.Words.{Node, one_or_none, sequence, slice_get_within, SpansOfGroups, suc, Tree, tree_at, tree_at-node, zero, ℕ}
use Rattle.sedtext.proofs.NodeLemmas.{node_at, parts_below}
use Rattle.sedtext.proofs.MatchingLemmas.{groups_after-is}

-- there is no group in the tree
abbrev pub NoGroups : Tree → Type 0
NoGroups (sequence a b) = NoGroups a × NoGroups b
NoGroups (either_of a b) = NoGroups a × NoGroups b
NoGroups (grouped k a) = ⊥
NoGroups (any_copies a first) = NoGroups a
NoGroups (one_or_none a first) = NoGroups a
NoGroups other = Unit {0}

forget-none : (e : Tree) → NoGroups e → (g : SpansOfGroups) → forget e g ≡ g
forget-none (sequence a b) none g = grind (arith, forget-none a, forget-none b)
forget-none (either_of a b) none g = grind (arith, forget-none a, forget-none b)
forget-none (any_copies a first) none g = forget-none a none g
forget-none (one_or_none a first) none g = forget-none a none g
forget-none _ none g = grind arith

groups_after-none : (e : Tree) → NoGroups e → (w : List ℕ) (i j : ℕ) (g : SpansOfGroups) → groups_after e w i j g ≡ g
unfolding groups_after
groups_after-none (sequence a b) none w i j g = grind (arith, groups_after-none a none.0, groups_after-none b none.1)
groups_after-none (either_of a b) none w i j g = grind (arith, groups_after-none a none.0, groups_after-none b none.1)
groups_after-none (any_copies a first) none w i j g = grind (arith, forget-none, groups_after-none a none w)
groups_after-none (one_or_none a first) none w i j g = grind (arith, forget-none, groups_after-none a none w i)
groups_after-none _ none w i j g = grind arith

pub Captures-none : (e : Tree) → NoGroups e → (w : List ℕ) (i j : ℕ) (g : SpansOfGroups) → Matches e w i j → Captures e w i j g g
Captures-none e none w i j g s = grind (arith, groups_after-none e none w i j g, groups_after-is e w i j g s)

module _ (nodes : List Node) (groups : ℕ) (expr : IsExpr nodes groups) (few : groups ≡ 0) where
  none_below : (n x : ℕ) → x < n → x < length nodes → NoGroups (tree_at nodes x)
  none_below zero x low inside = absurd (omega arith)
  none_below (suc n) x low inside =
      let node = node_at nodes x inside in
      grind (arith, tree_at-node nodes x node.0 expr.arena node.1, parts_below nodes expr.arena x node.0 node.1 x, expr.numbers x, slice_get_within nodes x, none_below n)

  pub no_groups_at : (x : ℕ) → x < length nodes → NoGroups (tree_at nodes x)
  no_groups_at x inside = none_below (suc x) x (omega arith) inside
