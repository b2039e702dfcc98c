-- Private to the proofs: no contract that `sedengine` makes public cites what is here.
-- What seeks the expressions of a script.
use Rattle.std.specs.Prelude.{◌≡◌, ℕ, ◌<◌, ◌≤◌, List, length}
use Rattle.std.specs.List.{All}
use Rattle.sedre.specs.Tree.{WrittenExpression}
use Rattle.sedmatch.specs.declared.occurrences.Occurrences.{Occurrences}
use Rattle.sedmatch.specs.Occurrences.{RoomFor}
use Rattle.sedacts.specs.Types.{Substitution}

-- each of these expressions has at most so many nodes
unfoldable pub AllFit : ℕ → List WrittenExpression → Type 0
AllFit most es = All (λ e. length e.nodes ≤ most) es

-- The matchers seek these expressions, of which each has at most so many nodes.
unfoldable pub Seek : List WrittenExpression → ℕ → List WrittenExpression → Type 0
Seek es most ms = (ms ≡ es) × AllFit most ms

-- where there are substitutions, there is room to seek occurrences of these expressions in texts of so many bytes
abbrev pub RoomToSeek : List Substitution → List WrittenExpression → ℕ → Occurrences → Type 0
RoomToSeek ss es text o = 0 < length ss → RoomFor text es o
