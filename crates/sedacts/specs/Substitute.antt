-- What the function `s` makes of a text (XCU sed, "s/BRE/replacement/flags").
use Rattle.std.specs.Prelude.{ℕ, zero, suc, ◌+◌, ◌-◌, List, [], ◌∷◌, ◌++◌, Bool, Option, Some, None, drop, take, slice_range, if◌then◌else◌}
use Rattle.std.specs.Option.{option_map_or}
use Rattle.sedmatch.specs.Groups.{SpansOfGroups, span_of, part_of}
use Rattle.sedmatch.specs.Matching.{next_match}
use Rattle.sedacts.specs.Types.{Piece, literal, whole, group}

-- where a match begins and ends, and which span each of its groups has
pub record Occurrence : Type 0 where
  pub start : ℕ
  pub end : ℕ
  pub groups : SpansOfGroups

-- at most so many occurrences in a text of n bytes, after one that ended at `last`; `search` gives the match from a place on
unfoldable pub occurrences_from : (ℕ → Option Occurrence) → ℕ → ℕ → Option ℕ → List Occurrence
occurrences_from search n zero last = []
occurrences_from search n (suc most) last =
    option_map_or (λ m. m ∷ occurrences_from search n most (Some m.end)) (next_match (λ m. (m.start, m.end)) search n last) []

-- all occurrences in a text of n bytes, from left to right. Each but the first ends after the one before
abbrev pub each_occurrence : (ℕ → Option Occurrence) → ℕ → List Occurrence
each_occurrence search n = occurrences_from search n (n + 1) None

-- those that are replaced: the one of a number, counted from 1 ("the nth occurrence only"), and with the flag `g`
-- ("all non-overlapping instances") it and all later ones (the two together: this project's own)
abbrev pub to_replace : ℕ → Bool → List Occurrence → List Occurrence
to_replace number global ms = if global then drop (number - 1) ms else take 1 (drop (number - 1) ms)

-- what stands for an occurrence in the text w: "&" is the matched text, "\\n" what the n-th group matched
abbrev pub put_for : List ℕ → Occurrence → List Piece → List ℕ
put_for w m [] = []
put_for w m (literal b ∷ ps) = b ∷ put_for w m ps
put_for w m (whole ∷ ps) = slice_range w m.start m.end ++ put_for w m ps
put_for w m (group k ∷ ps) = part_of w (span_of m.groups k) ++ put_for w m ps

-- the text w from a place on, these occurrences replaced
abbrev pub replaced_from : List ℕ → List Piece → ℕ → List Occurrence → List ℕ
replaced_from w ps at [] = drop at w
replaced_from w ps at (m ∷ ms) = slice_range w at m.start ++ put_for w m ps ++ replaced_from w ps m.end ms
