-- Decimal numbers among bytes (XCU sed, "Editing Commands in sed": `s`).
use Rattle.std.specs.Prelude.{◌≡◌, ℕ, ◌+◌, ◌-◌, ◌*◌, ◌<◌, List, [], ◌∷◌, ◌++◌, length, true, false, Option, Some, None}
use Rattle.std.specs.List.{list_all, list_any}
use Rattle.sedscript.specs.Bytes.{is_digit}

-- the number that the digits of n, and these digits after them, write
abbrev pub decimal_from : ℕ → List ℕ → ℕ
decimal_from n [] = n
decimal_from n (d ∷ ds) = decimal_from (n * 10 + (d - 48)) ds

-- the digits among the bytes are together, and write this number
pub record WritesNumber (bytes : List ℕ) (n : ℕ) : Type 0 where
  pub before : List ℕ
  pub digits : List ℕ
  pub after : List ℕ
  pub are : bytes ≡ before ++ digits ++ after
  pub nothing_before : list_any is_digit before ≡ false
  pub some : 0 < length digits
  pub each : list_all is_digit digits ≡ true
  pub none_after : list_any is_digit after ≡ false
  pub value : decimal_from 0 digits ≡ n

-- a number that they write, or none where no digit is among them
abbrev pub NumberAmong : List ℕ → Option ℕ → Type 0
NumberAmong bytes None = list_any is_digit bytes ≡ false
NumberAmong bytes (Some n) = WritesNumber bytes n
