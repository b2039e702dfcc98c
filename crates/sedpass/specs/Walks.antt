-- Which nodes of an expression are entered while the groups of a match are decided, from its end (this project's own).
use Rattle.std.specs.Prelude.{◌≡◌, ℕ, ◌+◌, ◌<◌, ◌≤◌, ◌⊎◌, Bool, true, false, ◌||◌, eqb, if◌then◌else◌, List, ◌∷◌, replicate, slice_set, slice_index_or, Option, Some, None, IsTrue}
use Rattle.sedre.specs.Steps.{TakesAtLeast}
use Rattle.sedre.specs.Tree.{Tree, sequence, either_of, grouped, any_copies, one_or_none}
use Rattle.sedtext.specs.Spans.{Matches}
use Rattle.sedtext.specs.Caps.{LastCut, LastCopy}
use Rattle.sedtext.specs.Groups.{SpansOfGroups}

-- which groups are due, that is not decided yet, and the spans of those that are decided
pub record GroupState : Type 0 where
  pub due : List Bool
  pub spans : SpansOfGroups

-- whether group k is due
abbrev pub is_due : GroupState → ℕ → Bool
is_due s k = slice_index_or s.due k false

-- group k is decided, if it is due
abbrev pub settle : ℕ → Option (ℕ × ℕ) → GroupState → GroupState
settle k v s = (if slice_index_or s.due k false then record { due = slice_set s.due k false; spans = slice_set s.spans k v } else s)

-- the groups inside the expression that are still due have no span
abbrev pub drop_groups : Tree → GroupState → GroupState
drop_groups (sequence a b) s = drop_groups b (drop_groups a s)
drop_groups (either_of a b) s = drop_groups b (drop_groups a s)
drop_groups (grouped k a) s = drop_groups a (settle k None s)
drop_groups (any_copies a first) s = drop_groups a s
drop_groups (one_or_none a first) s = drop_groups a s
drop_groups other s = s

-- whether group k is in the expression
abbrev pub has_group : Tree → ℕ → Bool
has_group (sequence a b) k = has_group a k || has_group b k
has_group (either_of a b) k = has_group a k || has_group b k
has_group (grouped n a) k = eqb n k || has_group a k
has_group (any_copies a first) k = has_group a k
has_group (one_or_none a first) k = has_group a k
has_group other k = false

-- group k is there
abbrev pub GroupIsIn : Tree → ℕ → Type 0
GroupIsIn e k = IsTrue (has_group e k)

-- no group of the expression is due
abbrev pub NoneDue : Tree → GroupState → Type 0
NoneDue e s = (k : ℕ) → GroupIsIn e k → is_due s k ≡ false

-- nor is anything done then
abbrev pub PassedBy : Tree → GroupState → GroupState → ℕ → Type 0
PassedBy e old new n = NoneDue e old × (new ≡ old) × (n ≡ 0)

-- The groups that are due in the expression's match i..j are decided from its end, and n nodes are entered. A node of which no group is
-- due is passed by; of a repetition the last copy alone is entered, and the groups in it that get no span there have none.
abbrev pub WalkEnters : Tree → List ℕ → ℕ → ℕ → GroupState → GroupState → ℕ → Type 0
WalkEnters (sequence a b) w i j old new n = PassedBy (sequence a b) old new n
    ⊎ ((p : ℕ) × (q : ℕ) × (n ≡ 1 + (p + q)) × (k : ℕ) × LastCut (Matches a w) (Matches b w) i j k × (mid : GroupState) × WalkEnters b w k j old mid p × WalkEnters a w i k mid new q)
WalkEnters (either_of a b) w i j old new n = PassedBy (either_of a b) old new n
    ⊎ ((p : ℕ) × (n ≡ 1 + p) × ((Matches a w i j × WalkEnters a w i j old new p) ⊎ ((Matches a w i j → ⊥) × WalkEnters b w i j old new p)))
WalkEnters (grouped k a) w i j old new n = PassedBy (grouped k a) old new n
    ⊎ ((p : ℕ) × (n ≡ 1 + p) × (mid : GroupState) × WalkEnters a w i j (settle k (Some (i, j)) old) mid p × (new ≡ drop_groups a mid))
WalkEnters (any_copies a first) w i j old new n = PassedBy (any_copies a first) old new n
    ⊎ ((p : ℕ) × (n ≡ 1 + p) × (
    ((i < j) × (c : ℕ) × LastCopy (Matches a w) j i c × (mid : GroupState) × WalkEnters a w c j old mid p × (new ≡ drop_groups a mid))
    ⊎ (((i ≡ j) × IsTrue first × Matches a w i i × (mid : GroupState) × WalkEnters a w i i old mid p × (new ≡ drop_groups a mid))
    ⊎ ((i ≡ j) × (IsTrue first → Matches a w i i → ⊥) × (new ≡ old) × (p ≡ 0)))))
WalkEnters (one_or_none a first) w i j old new n = PassedBy (one_or_none a first) old new n
    ⊎ ((p : ℕ) × (n ≡ 1 + p) × (
    ((i < j) × (mid : GroupState) × WalkEnters a w i j old mid p × (new ≡ drop_groups a mid))
    ⊎ (((i ≡ j) × IsTrue first × Matches a w i i × (mid : GroupState) × WalkEnters a w i i old mid p × (new ≡ drop_groups a mid))
    ⊎ ((i ≡ j) × (IsTrue first → Matches a w i i → ⊥) × (new ≡ old) × (p ≡ 0)))))
WalkEnters other w i j old new n = (new ≡ old) × (n ≡ 0)

-- a state to begin with: entry 0 is the whole match and no other has a span, and each group of the expression is due
pub record IsFirstState (e : Tree) (i j : ℕ) (s : GroupState) : Type 0 where
  pub whole : is_due s 0 ≡ false
  pub each : (k : ℕ) → 1 ≤ k → k < 10 → GroupIsIn e k → is_due s k ≡ true
  pub none : s.spans ≡ Some (i, j) ∷ replicate 9 None

-- the count of steps grew by one at least for each node that is entered while the groups due in the match i..j are decided
pub record LooksAtEntered (e : Tree) (w : List ℕ) (i j : ℕ) (start : GroupState) (before after : ℕ) : Type 0 where
  pub last : GroupState
  pub n : ℕ
  pub walk : WalkEnters e w i j start last n
  pub counts : TakesAtLeast before after n

-- all groups of the match are decided so
abbrev pub EntersGroups : Tree → List ℕ → ℕ → ℕ → ℕ → ℕ → Type 0
EntersGroups e w i j before after = (start : GroupState) × IsFirstState e i j start × LooksAtEntered e w i j start before after
