-- Which span each group of a match has. XBD 9.1 says that parts match the longest from left to right, and that a null string
-- goes before no match. How that is read here, where a concatenation is cut, which of several alternatives is taken, which
-- copy is the last or empty, and which groups are forgotten, is this project's own.
use Rattle.std.specs.Prelude.{◌≡◌, ℕ, ◌<◌, ◌≤◌, ◌⊎◌, List, slice_set, Some, IsTrue}
use Rattle.sedre.specs.Tree.{Tree, sequence, either_of, grouped, any_copies, one_or_none}
use Rattle.sedtext.specs.Spans.{CopiesLead, Matches}
use Rattle.sedtext.specs.Groups.{SpansOfGroups, forget, no_groups}

-- k is the greatest place up to which A leads from i, and from which B leads to j
pub record LastCut (A B : ℕ → ℕ → Type 0) (i j k : ℕ) : Type 0 where
  pub left : A i k
  pub right : B k j
  pub greatest : (l : ℕ) → A i l → B l j → l ≤ k

-- i..j is cut into copies of R that are not empty, each ending at the greatest place from which copies
-- lead on to j; the last one begins at the second number
pub data LastCopy (R : ℕ → ℕ → Type 0) (j : ℕ) : ℕ → ℕ → Type 0 where
  only : (i : ℕ) → i < j → R i j → LastCopy R j i i
  then_copy : (i k c : ℕ) → i < k → k < j → R i k → CopiesLead R j k → ((l : ℕ) → i < l → R i l → CopiesLead R j l → l ≤ k) → LastCopy R j k c → LastCopy R j i c

-- the expression matches i..j, and takes the groups from old to new
abbrev pub Captures : Tree → List ℕ → ℕ → ℕ → SpansOfGroups → SpansOfGroups → Type 0
Captures (sequence a b) w i j old new =
    (k : ℕ) × LastCut (Matches a w) (Matches b w) i j k × ((mid : SpansOfGroups) × Captures a w i k old mid × Captures b w k j mid new)
Captures (either_of a b) w i j old new =
    (Matches a w i j × Captures a w i j old new) ⊎ ((Matches a w i j → ⊥) × Captures b w i j old new)
Captures (grouped k a) w i j old new =
    (inner : SpansOfGroups) × Captures a w i j (forget (grouped k a) old) inner × (new ≡ slice_set inner k (Some (i, j)))
Captures (any_copies a first) w i j old new =
    ((i < j) × ((c : ℕ) × LastCopy (Matches a w) j i c × Captures a w c j (forget a old) new))
    ⊎ (((i ≡ j) × IsTrue first × Matches a w i i × Captures a w i i (forget a old) new)
    ⊎ ((i ≡ j) × ((IsTrue first → Matches a w i i → ⊥) × (new ≡ old))))
Captures (one_or_none a first) w i j old new =
    ((i < j) × Captures a w i j (forget a old) new)
    ⊎ (((i ≡ j) × IsTrue first × Matches a w i i × Captures a w i i (forget a old) new)
    ⊎ ((i ≡ j) × ((IsTrue first → Matches a w i i → ⊥) × (new ≡ old))))
Captures other w i j old new = new ≡ old

-- the groups of a match of i..j as they are reported: entry 0 is the whole match
abbrev pub IsReport : Tree → List ℕ → ℕ → ℕ → SpansOfGroups → Type 0
IsReport e w i j groups = (inner : SpansOfGroups) × Captures e w i j no_groups inner × (groups ≡ slice_set inner 0 (Some (i, j)))
