-- What a look at a text of many lines shows of matches in its lines.
use Rattle.std.specs.Prelude.{◌≡◌, ℕ, ◌+◌, ◌<◌, List, ◌++◌, length, Option, Some, None}
use Rattle.sedre.specs.Tree.{Tree}
use Rattle.sedtext.specs.Spans.{SomeFound}

-- it is before the place, where one is given
abbrev pub IsBefore : ℕ → Option ℕ → Type 0
IsBefore end None = Unit {0}
IsBefore end (Some place) = end < place

-- No part of the text that ends before the place has a match as a text of its own, as a line of it is; where no place is
-- given, no part has.
abbrev pub NoMatchBefore : Tree → List ℕ → Option ℕ → Type 0
NoMatchBefore e w place =
    (before line behind : List ℕ) → w ≡ before ++ (line ++ behind) → IsBefore (length before + length line) place →
    SomeFound e line 0 → ⊥
