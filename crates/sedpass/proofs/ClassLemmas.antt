-- How classes of bytes are found.
use Rattle.sedpass.proofs.Words.{rules, ◌≡◌, ℕ, ◌+◌, ◌*◌, ◌<◌, ◌≤◌, Bool, true, false, List, length, Some, IsTrue, slice_get, slice_index_or, slice_set, both_ways, from_bool, cases_eq, same_Some, has, IsFiner}

abbrev at : List ℕ → ℕ → ℕ
at xs k = slice_index_or xs k 0

-- the key of a byte: its class, and whether it is in the set
abbrev pub key_of : List ℕ → List Bool → ℕ → ℕ
key_of classes members byte = 2 * at classes byte + from_bool (has members byte)

-- the first n bytes have the numbers of their keys
abbrev pub AreGiven : (ℕ → ℕ) → List ℕ → List ℕ → ℕ → ℕ → Type 0
AreGiven key numbers of count n = (b : ℕ) → b < n → (key b < 512) × (at of b ≡ at numbers (key b)) × (at of b < count)

-- the first n of the sets part the classes, and no other byte has the class of one that is marked
pub record AreParted (sets : List (List Bool)) (n : ℕ) (of : List ℕ) (count : ℕ) (alone : List Bool) : Type 0 where
  pub wide : length of ≡ 256
  pub each : length alone ≡ 256
  pub few : count ≤ 256
  pub below : (byte : ℕ) → byte < 256 → at of byte < count
  pub alike : (k : ℕ) (members : List Bool) → k < n → slice_get sets k ≡ Some members → (one other : ℕ) → one < 256 → other < 256 → at of one ≡ at of other → has members one ≡ has members other
  pub apart : (b other : ℕ) → b < 256 → other < 256 → IsTrue (slice_index_or alone b false) → at of other ≡ at of b → other ≡ b

pub parted_none : (sets : List (List Bool)) (of : List ℕ) (alone : List Bool) → length of ≡ 256 → length alone ≡ 256 → ((b : ℕ) → b < 256 → at of b ≡ 0) → ((b : ℕ) → b < 256 → slice_index_or alone b false ≡ false) → AreParted sets 0 of 1 alone
parted_none sets of alone wide each low unmarked = search (rules, both_ways)

pub parted_more : (sets : List (List Bool)) (n : ℕ) (members alone : List Bool) (old of : List ℕ) (count next : ℕ) → slice_get sets n ≡ Some members → AreParted sets n old count alone → IsFiner old members of next →
    AreParted sets (n + 1) of next alone
parted_more sets n members alone old of count next is parted more =
    let apart : (b other : ℕ) → b < 256 → other < 256 → IsTrue (slice_index_or alone b false) → at of other ≡ at of b → other ≡ b = λ b other low low' marked e. parted.apart b other low low' marked (more.alike other b low' low e).0 in
    search (rules, same_Some, cases_eq)

-- a byte is marked that gets a class of its own
pub apart_more : (sets : List (List Bool)) (n : ℕ) (alone : List Bool) (b : ℕ) (of : List ℕ) (count : ℕ) → count < 256 → b < 256 → AreParted sets n of count alone →
    AreParted sets n (slice_set of b count) (count + 1) (slice_set alone b true)
apart_more sets n alone b of count few inside parted = search rules
