-- Replacements as they are written (XCU sed, "Editing Commands in sed": `s`).
use Rattle.std.specs.Prelude.{ℕ, ◌+◌, List, [], ◌∷◌, ◌++◌, if◌then◌else◌, ◌==◌, ◌||◌}
use Rattle.sedscript.specs.declared.substitution.Piece.{Piece}
use Rattle.sedscript.specs.declared.substitution.Piece.TheVariants.{Literal as literal, Whole as whole, Group as group}

-- a piece between these delimiters: `&` for the whole match, a backslash and a digit for a group, and a backslash before
-- a backslash, an `&`, a newline and the delimiter
abbrev pub written_piece : ℕ → Piece → List ℕ
written_piece delimiter (literal b) =
    if b == delimiter || b == 92 || b == 38 || b == 10 then 92 ∷ b ∷ [] else b ∷ []
written_piece delimiter whole = 38 ∷ []
written_piece delimiter (group k) = 92 ∷ (48 + k) ∷ []

abbrev pub written_pieces : ℕ → List Piece → List ℕ
written_pieces delimiter [] = []
written_pieces delimiter (p ∷ ps) = written_piece delimiter p ++ written_pieces delimiter ps
