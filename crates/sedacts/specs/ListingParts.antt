-- Private to the proofs: no contract that `sedengine` makes public cites what is here.
-- A listing in the making, and what the calls that make it promise one another.
use Rattle.std.specs.Prelude.{◌≡◌, ℕ, ◌+◌, List, [], ◌∷◌, ◌++◌, Bool, length, nat_lt, nat_le, not, ◌==◌, ◌&&◌, if◌then◌else◌}
use Rattle.sedacts.specs.Meters.{WereSent, SinkView}
use Rattle.sedacts.specs.Move.{to_sink}
use Rattle.sedacts.specs.Listing.{listed_byte, listed, listed_from, most_listed}

-- the bytes of a listing that are to be written, and how many bytes the current piece has
pub record Listing : Type 0 where
  pub bytes : List ℕ
  pub column : ℕ

-- whether a byte is listed as it is
abbrev pub plain : ℕ → Bool
plain b = nat_le 32 b && nat_le b 126 && not (b == 92)

-- bytes that are listed as they are
abbrev pub AreListedPlain : List ℕ → Type 0
AreListedPlain [] = Unit {0}
AreListedPlain (b ∷ bs) = (listed_byte b ≡ b ∷ []) × AreListedPlain bs

-- a listing goes on with bytes that need no fold
abbrev pub with_run : Listing → List ℕ → Listing
with_run l run = record { bytes = l.bytes ++ run; column = l.column + length run }

-- a listing goes on with an item
abbrev pub with_item : Listing → List ℕ → Listing
with_item l i =
    if nat_lt most_listed (l.column + length i)
    then record { bytes = (l.bytes ++ 92 ∷ 10 ∷ []) ++ i; column = length i }
    else with_run l i

-- The bytes `part` were listed: whatever comes after them, the whole listing is the same.
abbrev pub Lists : Listing → List ℕ → Listing → Type 0
Lists old part new = (rest : List ℕ) →
    old.bytes ++ listed_from old.column (part ++ rest) ≡ new.bytes ++ listed_from new.column rest

-- A beginning of the listing of these bytes was written, and the listing of the rest, from this column, is due.
pub record WrittenInPart (old new : SinkView) (bytes rest : List ℕ) (column : ℕ) : Type 0 where
  pub beginning : List ℕ
  pub sinks : WereSent old new (to_sink 0 beginning)
  pub whole : beginning ++ listed_from column rest ≡ listed bytes
