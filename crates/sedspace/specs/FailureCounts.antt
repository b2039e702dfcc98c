-- How a device counts its failures, up to the largest 64-bit number.
use Rattle.std.specs.Prelude.{◌≡◌, ℕ, ◌+◌, ◌-◌, ◌^◌, min, max, Result, MatchResult}

-- one more, and the same at the largest
abbrev pub raised : ℕ → ℕ
raised n = max n (min (n + 1) (2 ^ 64 - 1))

-- the number rises by one, and stays where it is the largest
abbrev pub Rises : ℕ → ℕ → Type 0
Rises old new = new ≡ raised old

-- an `Err` raises the number, and nothing else does
abbrev pub FailsAtErr : {T E : Type 0} → Result T E → ℕ → ℕ → Type 0
FailsAtErr r old new = MatchResult r (λ _. new ≡ old) (λ _. Rises old new)
