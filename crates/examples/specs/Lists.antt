-- Lists of plain bytes (XBD 9.3.5).
use Rattle.std.specs.Prelude.{◌≡◌, ◌⊎◌, ℕ, List, [], ◌∷◌, Option, None}

-- none of the bytes is `[`, `]`, `-` or `^`, nor a backslash where the expression has a delimiter
abbrev pub ArePlainMembers : Option ℕ → List ℕ → Type 0
ArePlainMembers delimiter [] = Unit {0}
ArePlainMembers delimiter (b ∷ bs) =
    (b ≡ 91 → ⊥) × (b ≡ 93 → ⊥) × (b ≡ 45 → ⊥) × (b ≡ 94 → ⊥) × ((delimiter ≡ None) ⊎ (b ≡ 92 → ⊥))
    × ArePlainMembers delimiter bs
