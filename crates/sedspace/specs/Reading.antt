-- How known bytes are read: those of a text by place, those of a source from the front.
use Rattle.std.specs.Prelude.{◌≡◌, ℕ, ◌<◌, ◌≤◌, List, ◌++◌, length, take, drop, Option, None, Some, ⊤}

-- n bytes of the text from the offset on are at the buffer's front; none only at its end or with no room
abbrev pub ReadsAt : Option (List ℕ) → ℕ → ℕ → List ℕ → Type 0
ReadsAt None offset n buf = ⊤
ReadsAt (Some xs) offset n buf =
    (take n buf ≡ take n (drop offset xs)) × (n ≤ length (drop offset xs))
    × (n ≡ 0 → 0 < length buf → length xs ≤ offset)

-- known bytes lose at most n from the front
abbrev pub TakesAtMost : Option (List ℕ) → Option (List ℕ) → ℕ → Type 0
TakesAtMost None new n = ⊤
TakesAtMost (Some xs) None n = ⊥
TakesAtMost (Some xs) (Some ys) n = (taken : List ℕ) × (xs ≡ taken ++ ys) × (length taken ≤ n)
