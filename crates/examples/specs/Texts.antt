-- Bytes and backslashes of texts (XCU sed, "Editing Commands in sed": `a`, `i` and `c`).
use Rattle.std.specs.Prelude.{◌≡◌, ◌≤◌, ◌⊎◌, ℕ, ◌+◌, List, [], ◌∷◌, length, Some, None, slice_get}
use Rattle.sedscript.specs.declared.types.TextUse.{TextUse}
use Rattle.sedscript.specs.declared.types.TextUse.TheVariants.{Append, Insert, Change}
use Rattle.examples.specs.Backslashes.{IsUnescaped, NoneUnescaped}

-- the letter of the function
abbrev pub letter_of : TextUse → ℕ
letter_of Append = 97
letter_of Insert = 105
letter_of Change = 99

-- each byte with a backslash before it
abbrev pub each_backslashed : List ℕ → List ℕ
each_backslashed [] = []
each_backslashed (b ∷ bs) = 92 ∷ b ∷ each_backslashed bs

-- the script ends in a backslash that none escapes, or in such a backslash and a newline
pub record EndsInBackslash (script : List ℕ) (from : ℕ) : Type 0 where
  pub at : ℕ
  pub begins : from ≤ at
  pub backslash : IsUnescaped 92 script from at
  pub last : (length script ≡ at + 1) ⊎ ((length script ≡ at + 2) × (slice_get script (at + 1) ≡ Some 10))

-- no text begins at a place: a line or the script ends there; or no newline ends the text, and where the script ends a
-- further line has to follow
abbrev pub HasNoText : List ℕ → ℕ → Type 0
HasNoText script from =
    (slice_get script from ≡ None)
    ⊎ ((slice_get script from ≡ Some 10)
    ⊎ (NoneUnescaped 10 script from (length script) × EndsInBackslash script from))
