-- The pieces of a replacement as a script keeps them.
use Rattle.std.specs.Prelude.{ℕ, ◌≤◌, List, [], ◌∷◌, ◌++◌, map}
use Rattle.sedscript.specs.declared.substitution.ReplacementPart.{ReplacementPart}
use Rattle.sedscript.specs.declared.substitution.ReplacementPart.TheVariants.{Literal, Whole, Group}
use Rattle.sedscript.specs.declared.substitution.Piece.{Piece}
use Rattle.sedscript.specs.declared.substitution.Piece.TheVariants.{Literal as literal, Whole as whole, Group as group}

-- the pieces that parts stand for
abbrev pub pieces_in : List ReplacementPart → List Piece
pieces_in [] = []
pieces_in (Literal bytes ∷ ps) = map literal bytes.items ++ pieces_in ps
pieces_in (Whole ∷ ps) = whole ∷ pieces_in ps
pieces_in (Group k ∷ ps) = group k ∷ pieces_in ps

-- the groups of the pieces have numbers from 1 to this one
abbrev pub PieceGroupsWithin : ℕ → List Piece → Type 0
PieceGroupsWithin n [] = Unit {0}
PieceGroupsWithin n (group k ∷ ps) = (1 ≤ k) × (k ≤ n) × PieceGroupsWithin n ps
PieceGroupsWithin n (other ∷ ps) = PieceGroupsWithin n ps
