-- Private to the proofs: no contract that `sedmatch` makes public cites what is here.
-- Classes of bytes: those of one class are in the same sets of an expression.
use Rattle.std.specs.Prelude.{◌≡◌, ℕ, ◌+◌, ◌≤◌, ◌<◌, ◌⊎◌, List, Bool, slice_get, slice_index_or, Some, length}
use Rattle.sedre.specs.Sets.{has}
use Rattle.sedre.specs.declared.types.Node.{Node}
use Rattle.sedre.specs.declared.types.Node.TheVariants.{Set}
use Rattle.sedpass.specs.Rows.{SameBytes}

-- each set of the nodes is among these
abbrev pub HaveSets : List Node → List (List Bool) → Type 0
HaveSets nodes sets = (x : ℕ) (members : List Bool) → slice_get nodes x ≡ Some (Set members) → (k : ℕ) × (slice_get sets k ≡ Some members)

-- bytes of one class are in the same sets
abbrev pub AreAlike : List Node → List ℕ → Type 0
AreAlike nodes classes = (one other : ℕ) → one < 256 → other < 256 → slice_index_or classes one 0 ≡ slice_index_or classes other 0 → SameBytes nodes (Some one) (Some other)

-- each byte has a class, of as many as there are columns
pub record AreClasses (nodes : List Node) (classes : List ℕ) (columns : ℕ) : Type 0 where
  pub some : 1 ≤ columns
  pub few : columns ≤ 256
  pub below : (byte : ℕ) → byte < 256 → slice_index_or classes byte 0 < columns
  pub alike : AreAlike nodes classes

-- How classes of bytes are found: keys, and a number for each key that comes.

-- each number below count is given once at most; a key without a number has 256
pub record IsNumbering (numbers : List ℕ) (count : ℕ) : Type 0 where
  pub known : (key : ℕ) → key < 512 → (slice_index_or numbers key 0 < count) ⊎ (slice_index_or numbers key 0 ≡ 256)
  pub apart : (key other : ℕ) → key < 512 → other < 512 → slice_index_or numbers key 0 ≡ slice_index_or numbers other 0 → slice_index_or numbers key 0 < count → key ≡ other

-- the key has a number, and the others have what they had
pub record IsNumbered (numbers : List ℕ) (key count : ℕ) (after : List ℕ) (next : ℕ) : Type 0 where
  pub numbering : IsNumbering after next
  pub here : slice_index_or after key 0 < next
  pub grows : count ≤ next
  pub few : next ≤ count + 1
  pub kept : (k : ℕ) → slice_index_or numbers k 0 < count → slice_index_or after k 0 ≡ slice_index_or numbers k 0

-- classes of which each lies in one old class, and within the set or outside it
pub record IsFiner (old : List ℕ) (members : List Bool) (of : List ℕ) (count : ℕ) : Type 0 where
  pub wide : length of ≡ 256
  pub few : count ≤ 256
  pub below : (byte : ℕ) → byte < 256 → slice_index_or of byte 0 < count
  pub alike : (one other : ℕ) → one < 256 → other < 256 → slice_index_or of one 0 ≡ slice_index_or of other 0 →
      (slice_index_or old one 0 ≡ slice_index_or old other 0) × (has members one ≡ has members other)
