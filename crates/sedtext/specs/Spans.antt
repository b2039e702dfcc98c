-- Which spans of a text an expression matches, and which of them is the match (XBD 9.1, 9.3, 9.4).
use Rattle.std.specs.Prelude.{◌≡◌, ℕ, ◌+◌, ◌<◌, ◌≤◌, Bool, false, ◌⊎◌, List, length, slice_get, slice_index_or, Some, IsTrue}
use Rattle.sedre.specs.Tree.{Tree, null_string, byte_of, text_begin, text_end, sequence, either_of, grouped, any_copies, one_or_none}

-- the byte is in the set (XBD 9.3.5)
abbrev pub IsIn : ℕ → List Bool → Type 0
IsIn byte members = IsTrue (slice_index_or members byte false)

-- copies of R one after another lead from the last number to j, none of them empty
pub data CopiesLead (R : ℕ → ℕ → Type 0) (j : ℕ) : ℕ → Type 0 where
  no_copy : CopiesLead R j j
  one_more : (i k : ℕ) → i < k → R i k → CopiesLead R j k → CopiesLead R j i

-- the expression matches the bytes from place i up to place j of the whole text w
abbrev pub Matches : Tree → List ℕ → ℕ → ℕ → Type 0
-- the null string
Matches null_string w i j = i ≡ j
-- one byte of a set: an ordinary character, a special one after a backslash, a period, a bracket expression (XBD 9.3.2 to 9.3.5)
Matches (byte_of members) w i j = (byte : ℕ) × (slice_get w i ≡ Some byte) × IsIn byte members × (j ≡ i + 1)
-- the anchors match at the beginning and at the end of the whole text alone (XBD 9.3.8)
Matches text_begin w i j = (i ≡ 0) × (j ≡ 0)
Matches text_end w i j = (i ≡ length w) × (j ≡ length w)
-- a concatenation matches what its parts match one after another (XBD 9.3.6)
Matches (sequence a b) w i j = (k : ℕ) × Matches a w i k × Matches b w k j
-- an alternation matches what one of its alternatives matches (XBD 9.4.7)
Matches (either_of a b) w i j = Matches a w i j ⊎ Matches b w i j
-- a group matches what is in it (XBD 9.3.6)
Matches (grouped k a) w i j = Matches a w i j
-- any number of copies, none among them (XBD 9.3.6)
Matches (any_copies a first) w i j = CopiesLead (Matches a w) j i
-- one copy or none (XBD 9.4.6)
Matches (one_or_none a first) w i j = (i ≡ j) ⊎ Matches a w i j

-- the match sought from place p on: "the search .. starts at the beginning of a string and stops when the first
-- sequence matching the expression is found", the longest one of those that begin there (XBD 9.1)
pub record IsLeftmostLongest (e : Tree) (w : List ℕ) (p i j : ℕ) : Type 0 where
  pub after : p ≤ i
  pub spans : Matches e w i j
  pub longest : (k : ℕ) → Matches e w i k → k ≤ j
  pub leftmost : (h k : ℕ) → p ≤ h → h < i → Matches e w h k → ⊥

-- no place of the text from p on begins a match
abbrev pub NotFound : Tree → List ℕ → ℕ → Type 0
NotFound e w p = (i k : ℕ) → p ≤ i → i ≤ length w → Matches e w i k → ⊥

-- some place of the text from p on begins a match
abbrev pub SomeFound : Tree → List ℕ → ℕ → Type 0
SomeFound e w p = (i : ℕ) × (k : ℕ) × (p ≤ i) × (i ≤ length w) × Matches e w i k
