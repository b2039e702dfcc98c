-- Where labels end (XCU sed, "Editing Commands in sed": `:`, `b` and `t`).
use Rattle.std.specs.Prelude.{◌≡◌, ℕ, ◌⊎◌}

-- a newline, a semicolon, a space, a tab or a closing brace
abbrev pub EndsLabel : ℕ → Type 0
EndsLabel b = (b ≡ 10) ⊎ ((b ≡ 59) ⊎ ((b ≡ 32) ⊎ ((b ≡ 9) ⊎ (b ≡ 125))))
