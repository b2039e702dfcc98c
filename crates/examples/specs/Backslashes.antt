-- Bytes after backslashes, in texts and in strings between delimiters (XCU sed, "Editing Commands in sed").
use Rattle.std.specs.Prelude.{◌≡◌, ◌≤◌, ◌<◌, ℕ, suc, List, [], ◌∷◌, Some, if◌then◌else◌, ◌==◌, ◌%◌, slice_get}
use Rattle.sedscript.specs.Bytes.{bytes_between}

-- how many backslashes are at the end of these bytes, where so many come directly before them
abbrev pub backslashes : ℕ → List ℕ → ℕ
backslashes before [] = before
backslashes before (b ∷ bs) = backslashes (if b == 92 then suc before else 0) bs

-- the byte is at a place of the text, with an even number of backslashes directly before it, none of them counted
-- that comes before `from`
pub record IsUnescaped (byte : ℕ) (text : List ℕ) (from at : ℕ) : Type 0 where
  pub stands : slice_get text at ≡ Some byte
  pub even : backslashes 0 (bytes_between text from at) % 2 ≡ 0

-- no such byte is from one place on before another
abbrev pub NoneUnescaped : (byte : ℕ) (text : List ℕ) (from to : ℕ) → Type 0
NoneUnescaped byte text from to = (at : ℕ) → from ≤ at → at < to → IsUnescaped byte text from at → ⊥
