-- Where a text has a byte.
use Rattle.std.specs.Prelude.{◌≡◌, ℕ, ◌+◌, ◌-◌, ◌<◌, ◌≤◌, Bool, List, slice_get, Option, Some, None}
use Rattle.sedtext.specs.Spans.{IsIn}

-- the first place from p on of which P is true, if there is one
abbrev pub FirstFrom : (ℕ → Type 0) → ℕ → Option ℕ → Type 0
FirstFrom P p None = (k : ℕ) → p ≤ k → P k → ⊥
FirstFrom P p (Some k) = (p ≤ k) × P k × ((h : ℕ) → p ≤ h → h < k → P h → ⊥)

-- a byte of the set is at the place
abbrev pub MemberAt : List Bool → List ℕ → ℕ → Type 0
MemberAt members w i = (byte : ℕ) × (slice_get w i ≡ Some byte) × IsIn byte members

-- how many bytes are passed from p to the end of the m bytes found, or to the end n of the text
abbrev pub passed_to : ℕ → ℕ → ℕ → Option ℕ → ℕ
passed_to n p m None = n - p
passed_to n p m (Some k) = k + m - p
