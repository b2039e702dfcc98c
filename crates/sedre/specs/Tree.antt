-- Expressions written out as trees, and an expression as a list of nodes, each after its parts, with the tree that it is.
use Rattle.std.specs.Prelude.{ℕ, List, Bool, zero, suc, ◌+◌, slice_get, ◌-◌, length}
use Rattle.std.specs.Option.{option_map_or}
use Rattle.sedre.specs.Types.{Node, Empty, Set, Begin, End, Seq, Alt, Group, Star, Opt}

pub data Tree : Type 0 where
  null_string : Tree
  byte_of : List Bool → Tree  -- one byte of a set
  text_begin : Tree  -- the anchors ^ and $ (XBD 9.3.8, 9.4.9)
  text_end : Tree
  sequence : Tree → Tree → Tree  -- one after the other
  either_of : Tree → Tree → Tree
  grouped : ℕ → Tree → Tree  -- a group and its number
  -- any number of copies, and at most one; the mark, this project's own, says that no copy comes before it
  any_copies : Tree → Bool → Tree
  one_or_none : Tree → Bool → Tree

-- how many nodes it has
abbrev pub size : Tree → ℕ
size (sequence a b) = 1 + size a + size b
size (either_of a b) = 1 + size a + size b
size (grouped k a) = 1 + size a
size (any_copies a first) = 1 + size a
size (one_or_none a first) = 1 + size a
size other = 1

-- what a contract sees of an expression
pub record WrittenExpression : Type 0 where
  pub nodes : List Node
  pub groups : ℕ

-- the tree at a node, given the trees of its parts
abbrev pub tree_of : (ℕ → Tree) → Node → Tree
tree_of part Empty = null_string
tree_of part (Set s) = byte_of s
tree_of part Begin = text_begin
tree_of part End = text_end
tree_of part (Seq a b) = sequence (part a.index) (part b.index)
tree_of part (Alt a b) = either_of (part a.index) (part b.index)
tree_of part (Group k a) = grouped k (part a.index)
tree_of part (Star a first) = any_copies (part a.index) first
tree_of part (Opt a first) = one_or_none (part a.index) first

-- the tree at the node x, following parts at most n deep
unfoldable pub tree_within : ℕ → List Node → ℕ → Tree
tree_within zero nodes x = null_string
tree_within (suc n) nodes x = option_map_or (tree_of (tree_within n nodes)) (slice_get nodes x) null_string

-- the tree at the node x
unfoldable pub tree_at : List Node → ℕ → Tree
tree_at nodes x = tree_within (suc x) nodes x

-- the tree of a whole expression
abbrev pub expression_tree : WrittenExpression → Tree
expression_tree e = tree_at e.nodes (length e.nodes - 1)
