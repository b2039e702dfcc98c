-- Private to the proofs: no contract of a public item cites what is here.
-- A set of bytes as four words of 64 bits: bit b % 64 of word b / 64 stands for the byte b.
use Rattle.std.specs.Prelude.{ℕ, zero, suc, ◌+◌, ◌*◌, ◌/◌, ◌%◌, ◌^◌, ◌<◌, Bool, eqb, List, [], ◌∷◌, slice_index_or}
use Rattle.std.specs.Prelude.{if◌then◌else◌}
use Rattle.std.specs.Int.{bit_at}
use Rattle.sedre.specs.Sets.{set_of, has}

-- whether the bit of a byte is set
unfoldable pub is_set : List ℕ → ℕ → Bool
is_set words c = eqb (bit_at (slice_index_or words (c / 64) 0) (c % 64)) 1

-- the set that the words stand for
unfoldable pub set_of_words : List ℕ → List Bool
set_of_words words = set_of (is_set words)

-- four words
abbrev pub AreWords : List ℕ → Type 0
AreWords (a ∷ b ∷ c ∷ d ∷ []) = (a < 2 ^ 64) × (b < 2 ^ 64) × (c < 2 ^ 64) × (d < 2 ^ 64)
AreWords other = ⊥

-- the number whose lowest bits are the first n truth values
unfoldable pub from_bits : (ℕ → Bool) → ℕ → ℕ
from_bits bit zero = 0
from_bits bit (suc n) = (if bit 0 then 1 else 0) + 2 * from_bits (λ k. bit (suc k)) n

-- the word of a set for the 64 bytes from one on
unfoldable pub word_at : List Bool → ℕ → ℕ
word_at set from = from_bits (λ k. has set (from + k)) 64

unfoldable pub words_of : List Bool → List ℕ
words_of set = word_at set 0 ∷ word_at set 64 ∷ word_at set 128 ∷ word_at set 192 ∷ []
