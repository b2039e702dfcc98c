-- Private to the proofs: no contract of a public item cites what is here.
-- What the reader answers after a token, and at the end of a text.
use Rattle.std.specs.Prelude.{◌≡◌, ◌≤◌, ◌<◌, ◌⊎◌, ℕ, length}
use Rattle.sedre.specs.Types.{TooDeep, TooManyNodes, ExprFault, NextToken, Is, Ends, Bad}
use Rattle.sedre.specs.Tree.{Tree, sequence, either_of, grouped, any_copies, one_or_none, WrittenExpression, expression_tree, size}
use Rattle.sedre.specs.Grammar.{depth}
use Rattle.sedre.specs.Stacks.{Nesting, whole_level}

-- each group of the tree has a number from 1 to the bound
abbrev pub GroupsNumbered : ℕ → Tree → Type 0
GroupsNumbered most (sequence a b) = GroupsNumbered most a × GroupsNumbered most b
GroupsNumbered most (either_of a b) = GroupsNumbered most a × GroupsNumbered most b
GroupsNumbered most (grouped k a) = (1 ≤ k) × (k ≤ most) × GroupsNumbered most a
GroupsNumbered most (any_copies a first) = GroupsNumbered most a
GroupsNumbered most (one_or_none a first) = GroupsNumbered most a
GroupsNumbered most other = Unit {0}

-- the expression is what the state stands for
pub record IsFinished (s : Nesting) (limit : ℕ) (e : WrittenExpression) : Type 0 where
  pub tree_is : expression_tree e ≡ whole_level s.top
  pub groups : e.groups ≡ s.opened
  pub count : length e.nodes ≡ size (whole_level s.top)
  pub shallow : depth (whole_level s.top) ≤ 600
  pub small : size (whole_level s.top) < limit

-- it is too deep, or else has too many nodes
abbrev pub IsOverLimit : Nesting → (limit len : ℕ) → ExprFault → Type 0
IsOverLimit s limit len f =
    ((f ≡ record { place = len; reason = TooDeep }) × (600 < depth (whole_level s.top)))
    ⊎ ((f ≡ record { place = len; reason = TooManyNodes }) × (depth (whole_level s.top) ≤ 600) × (limit ≤ size (whole_level s.top)))

-- a token ends after its place, and a fault is reported within the text
abbrev pub IsTokenAfter : (at len : ℕ) → NextToken → Type 0
IsTokenAfter at len (Is i next) = (at < next) × (next ≤ len)
IsTokenAfter at len Ends = Unit {0}
IsTokenAfter at len (Bad f) = f.place ≤ len
