-- Private to the proofs: no contract of a public item cites what is here.
-- What the reader keeps while it reads.
use Rattle.std.specs.Prelude.{◌≡◌, ◌≢◌, ℕ, suc, ◌+◌, ◌-◌, ◌<◌, ◌≤◌, min, take, length, List, [], ◌∷◌, ◌++◌, Bool, true}
use Rattle.std.specs.Prelude.{false, nat_lt, if◌then◌else◌, Option, Some, None}
use Rattle.sedre.specs.declared.types.Node.{Node}
use Rattle.sedre.specs.declared.types.Node.TheVariants as node
use Rattle.sedre.specs.Types.{Token, Byte, Open, Close, Bar, Repeat, AtBegin, AtEnd}
use Rattle.sedre.specs.declared.parts.TreeExtent.{TreeExtent}
use Rattle.sedre.specs.declared.parts.Mark.{Mark}
use Rattle.sedre.specs.declared.parts.Cover.{Cover}
use Rattle.sedre.specs.declared.parts.Cover.TheVariants as cover
use Rattle.sedre.specs.declared.stack.Stack.{Stack}
use Rattle.sedre.specs.declared.builder.Builder.{Builder}
use Rattle.sedre.specs.Packed.{id, PartsBelow}
use Rattle.sedre.specs.Tree.{Tree, null_string, byte_of, text_begin, text_end, sequence, either_of, grouped, any_copies, one_or_none, size}
use Rattle.sedre.specs.Grammar.{depth, without_alternation, concatenation, alternation, repetition}

-- the finished alternatives of an open group, and the pieces of the one that is read
pub record Level : Type 0 where
  pub number : ℕ
  pub alternatives : List Tree
  pub pieces : List Tree

-- the openings so far, the innermost level and those around it
pub record Nesting : Type 0 where
  pub opened : ℕ
  pub top : Level
  pub below : List Level

abbrev pub no_nesting : Nesting
no_nesting = record { opened = 0; top = record { number = 0; alternatives = []; pieces = [] }; below = [] }

abbrev pub with_piece : Tree → Level → Level
with_piece t l = record { number = l.number; alternatives = l.alternatives; pieces = l.pieces ++ t ∷ [] }

abbrev pub all_alternatives : Level → List Tree
all_alternatives l = l.alternatives ++ concatenation l.pieces ∷ []

-- the whole of a level
abbrev pub whole_level : Level → Tree
whole_level l = alternation (all_alternatives l)

-- the list with its last element changed
abbrev pub with_last : (Tree → Tree) → List Tree → List Tree
with_last f [] = []
with_last f (t ∷ []) = f t ∷ []
with_last f (t ∷ u ∷ us) = t ∷ with_last f (u ∷ us)

abbrev pub close : Level → List Level → ℕ → Nesting
close top [] opened = record { opened = opened; top = top; below = [] }
close top (l ∷ ls) opened = record { opened = opened; top = with_piece (grouped top.number (whole_level top)) l; below = ls }

abbrev pub step : Token → Nesting → Nesting
step (Byte members) s = record { opened = s.opened; top = with_piece (byte_of members) s.top; below = s.below }
step AtBegin s = record { opened = s.opened; top = with_piece text_begin s.top; below = s.below }
step AtEnd s = record { opened = s.opened; top = with_piece text_end s.top; below = s.below }
step Open s = record {
  opened = suc s.opened;
  top = record { number = suc s.opened; alternatives = []; pieces = [] };
  below = s.top ∷ s.below;
}
step Close s = close s.top s.below s.opened
step Bar s = record {
  opened = s.opened;
  top = record { number = s.top.number; alternatives = all_alternatives s.top; pieces = [] };
  below = s.below;
}
step (Repeat least most) s = record {
  opened = s.opened;
  top = record {
    number = s.top.number;
    alternatives = s.top.alternatives;
    pieces = with_last (repetition least most) s.top.pieces;
  };
  below = s.below;
}

abbrev pub nest_all : List Token → Nesting → Nesting
nest_all [] s = s
nest_all (i ∷ is) s = nest_all is (step i s)

-- the nodes of a tree from an index on: those of its parts, and then its root
abbrev pub postorder : ℕ → Tree → List Node
postorder base null_string = node.Empty ∷ []
postorder base (byte_of members) = node.Set members ∷ []
postorder base text_begin = node.Begin ∷ []
postorder base text_end = node.End ∷ []
postorder base (sequence a b) =
    (postorder base a ++ postorder (base + size a) b)
    ++ node.Seq (id (base + size a - 1)) (id (base + size a + size b - 1)) ∷ []
postorder base (either_of a b) =
    (postorder base a ++ postorder (base + size a) b)
    ++ node.Alt (id (base + size a - 1)) (id (base + size a + size b - 1)) ∷ []
postorder base (grouped k a) = postorder base a ++ node.Group k (id (base + size a - 1)) ∷ []
postorder base (any_copies a first) = postorder base a ++ node.Star (id (base + size a - 1)) first ∷ []
postorder base (one_or_none a first) = postorder base a ++ node.Opt (id (base + size a - 1)) first ∷ []

-- trees written out one after another
abbrev pub written_trees : ℕ → List Tree → List Node
written_trees base [] = []
written_trees base (t ∷ ts) = postorder base t ++ written_trees (base + size t) ts

abbrev pub total : List Tree → ℕ
total [] = 0
total (t ∷ ts) = size t + total ts

-- the trees up to the first whose nodes would reach the limit
abbrev pub fitting : ℕ → ℕ → List Tree → List Tree
fitting limit base [] = []
fitting limit base (t ∷ ts) = if nat_lt (base + size t) limit then t ∷ fitting limit (base + size t) ts else []

-- what is kept of a tree whose nodes end there
abbrev pub extent_kept : ℕ → ℕ → Tree → TreeExtent
extent_kept limit ends t =
    record { end = min ends limit; depth = min 601 (depth t); inner = min 601 (without_alternation t (depth t)) }

abbrev pub extents_kept : ℕ → ℕ → List Tree → List TreeExtent
extents_kept limit base [] = []
extents_kept limit base (t ∷ ts) = extent_kept limit (base + size t) t ∷ extents_kept limit (base + size t) ts

-- the node stands for the tree, which has no parts
abbrev pub IsLeaf : Node → Tree → Type 0
IsLeaf n t = ((base : ℕ) → postorder base t ≡ n ∷ []) × (size t ≡ 1) × (depth t ≡ 0) × (without_alternation t (depth t) ≡ 0)
    × ((k : ℕ) → PartsBelow k n)

-- where the nodes of the last tree end
abbrev pub last_end : List TreeExtent → ℕ
last_end [] = 0
last_end (p ∷ []) = p.end
last_end (p ∷ q ∷ ps) = last_end (q ∷ ps)

-- the stack contains these trees: the nodes of those that fit, and of each its measures
pub record StoresTrees (limit : ℕ) (s : Stack) (ts : List Tree) : Type 0 where
  pub limit_is : s.limit ≡ limit
  pub nodes_are : s.nodes ≡ written_trees 0 (fitting limit 0 ts)
  pub parts_are : s.parts.items ≡ extents_kept limit 0 ts

-- the last tree became another
abbrev pub LastBecomes : (Tree → Tree) → Stack → Stack → Type 0
LastBecomes f old new =
    (limit : ℕ) (ts : List Tree) (a : Tree) → StoresTrees limit old (ts ++ a ∷ []) → StoresTrees limit new (ts ++ f a ∷ [])

-- the trees from the given number on became one
abbrev pub JoinsTrees : ℕ → (List Tree → Tree) → Stack → Stack → Type 0
JoinsTrees from f old new =
    (limit : ℕ) (ts ps : List Tree) → length ts ≡ from → StoresTrees limit old (ts ++ ps) →
    StoresTrees limit new (ts ++ f ps ∷ [])

-- a tree came on the stack, whose root is this node and whose parts' nodes end there
pub record PutsTree (limit : ℕ) (ns : List Node) (ps : List TreeExtent) (new : Stack) (n : Node) (ends d i : ℕ) : Type 0 where
  pub limit_is : new.limit ≡ limit
  pub parts : new.parts.items ≡ ps ++ record { end = min (ends + 1) limit; depth = d; inner = i } ∷ []
  pub kept : ends + 1 < limit → PartsBelow (length ns) n → new.nodes ≡ ns ++ n ∷ []
  pub over : limit ≤ ends + 1 → new.nodes ≡ take (last_end ps) ns

-- the trees of levels, the innermost level first, in the order in which they were read
abbrev pub trees_in : List Level → List Tree
trees_in [] = []
trees_in (l ∷ ls) = trees_in ls ++ (l.alternatives ++ l.pieces)

-- where the alternatives and the pieces of a level begin among all trees
abbrev pub mark_of : Level → List Level → Mark
mark_of l ls = record {
  number = l.number;
  alternatives = length (trees_in ls);
  pieces = length (trees_in ls) + length l.alternatives;
}

abbrev pub marks_of_levels : List Level → List Mark
marks_of_levels [] = []
marks_of_levels (l ∷ ls) = marks_of_levels ls ++ mark_of l ls ∷ []

-- two trees as an alternation or a concatenation
abbrev pub pair : Bool → Tree → Tree → Tree
pair true a b = either_of a b
pair false a b = sequence a b

-- several
abbrev pub chain : Bool → List Tree → Tree
chain true ts = alternation ts
chain false ts = concatenation ts

-- a tree under a node
abbrev pub covered : Cover → Tree → Tree
covered (cover.Group k) a = grouped k a
covered (cover.Star first) a = any_copies a first
covered (cover.Opt first) a = one_or_none a first

-- the reader stands for this state
pub record Represents (limit : ℕ) (b : Builder) (s : Nesting) : Type 0 where
  pub stored : StoresTrees limit b.stack (trees_in (s.top ∷ s.below))
  pub opened : b.opened ≡ s.opened
  pub top : b.top ≡ mark_of s.top s.below
  pub below : b.below.items ≡ marks_of_levels s.below

-- at least so many copies are no more than at most so many
abbrev pub IsInterval : ℕ → Option ℕ → Type 0
IsInterval least None = Unit {0}
IsInterval least (Some most) = least ≤ most

-- the token may come here
abbrev pub CanTake : Token → Nesting → Type 0
CanTake Close s = s.below ≢ []
CanTake (Repeat least most) s = (s.top.pieces ≢ []) × IsInterval least most
CanTake other s = Unit {0}

-- one token more was read
abbrev pub TakesToken : Token → Builder → Builder → Type 0
TakesToken item old new =
    (limit : ℕ) (s : Nesting) → Represents limit old s → CanTake item s → Represents limit new (step item s)
