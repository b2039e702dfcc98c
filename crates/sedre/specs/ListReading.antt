-- Private to the proofs: no contract of a public item cites what is here.
-- What the reader of bracket expressions sees of what is left of a text.
use Rattle.std.specs.Prelude.{ℕ, ◌+◌, List, ◌∷◌, drop, Bool, false, not, slice_index_or, ◌&&◌, ◌==◌, Option, Result}
use Rattle.std.specs.Prelude.{Ok, Err, if◌then◌else◌}
use Rattle.sedre.specs.Brackets.{front_element, single, range, ListedBytes, is_at_front}
use Rattle.sedre.specs.Types.{ExprFault, ByteSet}

-- whether - and the beginning of a further element are at the front
abbrev pub is_range : List ℕ → Bool
is_range (b ∷ c ∷ rest) = b == 45 && not (c == 93)
is_range left = false

-- what an element or a range lists, and the place after it
abbrev pub located : ℕ → ListedBytes → Result (ByteSet × ℕ) ExprFault
located next (Err f) = Err f
located next (Ok set) = Ok (set, next)

-- the element or the range that begins at a place
unfoldable pub members_at : Option ℕ → (text : List ℕ) → (at : ℕ) → Result (ByteSet × ℕ) ExprFault
members_at delimiter text at =
    let first = front_element delimiter (drop at text) in
    let next = at + first.1 in
    let last = front_element delimiter (drop (next + 1) text) in
    let end = next + 1 + last.1 in
    if is_range (drop next text) then
    located end (range (at, first.0) (next + 1, last.0) (is_range (drop end text)))
    else located next (single (at, first.0))

-- where the elements of a list begin, from the place after its [
abbrev pub elements_start : (place : ℕ) → List ℕ → ℕ
elements_start place bytes = if is_at_front bytes 94 then place + 1 else place

-- whether a ] at a place closes a list whose elements begin at `start`
abbrev pub is_closing : List ℕ → (start place : ℕ) → Bool
is_closing text start place = slice_index_or text place 0 == 93 && not (place == start)
