-- Private to the proofs: no contract that `sedmatch` makes public cites what is here.
-- Sets of bytes that are decided by the nibbles of a byte, and where bytes of three of them are.
use Rattle.std.specs.Prelude.{◌≡◌, ℕ, ◌+◌, ◌/◌, ◌%◌, ◌^◌, ◌<◌, ◌↔◌, List, length, slice_get, slice_index, Option, Some, None}
use Rattle.std.specs.Int.{bit_at}
use Rattle.sedre.specs.Tree.{Tree}
use Rattle.sedtext.specs.Spans.{Matches}
use Rattle.sedtext.specs.declared.counted.sieve.Fixed.{Fixed}
use Rattle.sedtext.specs.declared.counted.sieve.Sieve.{Sieve}

-- the byte is marked in the rows: in that of its lower nibble, by the bit of its upper one
abbrev pub IsMarked : List ℕ → ℕ → Type 0
IsMarked rows c = c < 256 → bit_at (slice_index rows (c % 16)) (c / 16 % 8) ≡ 1

-- a vector of 32 lanes has these values
abbrev pub HasLanes : List ℕ → (ℕ → ℕ) → Type 0
HasLanes v f = (length v ≡ 32) × ((k : ℕ) → k < 32 → slice_index v k ≡ f k)

-- a byte of the set is at the distance after the place
abbrev pub FixedAt : Fixed → List ℕ → ℕ → Type 0
FixedAt f w i = (c : ℕ) × (slice_get w (i + f.offset) ≡ Some c) × IsMarked f.set.rows c

-- bytes of all three sets are at their distances after the place
abbrev pub PassesSieve : Sieve → List ℕ → ℕ → Type 0
PassesSieve s w i = FixedAt s.first w i × FixedAt s.second w i × FixedAt s.third w i

-- of the 32 places from p on those of which P is true have their bit set
abbrev pub MarksPlaces : (ℕ → Type 0) → ℕ → ℕ → Type 0
MarksPlaces P p marks = (marks < 2 ^ 32) × ((k : ℕ) → k < 32 → (bit_at marks k ≡ 1) ↔ P (p + k))

-- a byte of the set is at the distance after the beginning of each span of the expression
abbrev pub AllFixed : Tree → Fixed → Type 0
AllFixed e f = (w : List ℕ) (i j : ℕ) → Matches e w i j → FixedAt f w i

-- bytes of all three sets, if there are such, are at their distances after the beginning of each span
abbrev pub AllPass : Tree → Option Sieve → Type 0
AllPass e None = Unit {0}
AllPass e (Some s) = AllFixed e s.first × AllFixed e s.second × AllFixed e s.third
