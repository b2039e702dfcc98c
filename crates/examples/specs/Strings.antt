-- The strings of `y` as they are written (XCU sed, "Editing Commands in sed": `y`).
use Rattle.std.specs.Prelude.{◌≡◌, ℕ, ◌+◌, List, [], ◌∷◌, ◌++◌, Some, slice_get, if◌then◌else◌, ◌==◌, ◌||◌, Ok}
use Rattle.sedscript.specs.declared.items.Strings.{Strings}
use Rattle.sedscript.specs.Arguments.{own_delimiter, transliterate_strings}
use Rattle.sedscript.specs.declared.transliteration.Char.{Char}
use Rattle.sedscript.specs.Strings.{bytes_of}

-- no byte is at two places
abbrev pub NoneTwice : List ℕ → Type 0
NoneTwice bytes = (i j b : ℕ) → slice_get bytes i ≡ Some b → slice_get bytes j ≡ Some b → i ≡ j

-- a `y` is at a place, and these strings follow it
abbrev pub IsTransliterate : List ℕ → ℕ → Strings → Type 0
IsTransliterate text at s =
    (slice_get text at ≡ Some 121)
    × (transliterate_strings text (at + 1) (own_delimiter (slice_get text (at + 1))) ≡ Ok s)

-- a byte of the string occurs at this place for the second time, and none does so at an earlier one
pub record RepeatsFirst (chars : List Char) (place : ℕ) : Type 0 where
  pub before : List Char
  pub second : Char
  pub after : List Char
  pub are : chars ≡ before ++ second ∷ after
  pub first : ℕ
  pub stands : slice_get (bytes_of before) first ≡ Some second.byte
  pub nothing_before : NoneTwice (bytes_of before)
  pub there : place ≡ second.place

-- a byte in a string between these delimiters: `\n` for a newline, a backslash before the delimiter and a backslash
abbrev pub written_byte : ℕ → ℕ → List ℕ
written_byte delimiter b =
    if b == 10 then 92 ∷ 110 ∷ []
    else if b == delimiter || b == 92 then 92 ∷ b ∷ []
    else b ∷ []

-- bytes in a string between these delimiters
abbrev pub written_string : ℕ → List ℕ → List ℕ
written_string delimiter [] = []
written_string delimiter (b ∷ bs) = written_byte delimiter b ++ written_string delimiter bs
