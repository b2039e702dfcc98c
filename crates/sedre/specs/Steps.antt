-- Counts of steps, each at most the largest `u128`.
use Rattle.std.specs.Prelude.{◌≡◌, ℕ, ◌+◌, ◌-◌, ◌^◌, ◌≤◌, min}

-- the count grew from s to t, by n at most
abbrev pub Takes : ℕ → ℕ → ℕ → Type 0
Takes s t n = (s ≤ t) × (t ≤ s + n)

-- the count t is at most n above s; that it grew from s is said separately, by `Takes` or `CostsWithin`
abbrev pub StepsWithin : ℕ → ℕ → ℕ → Type 0
StepsWithin s t n = t ≤ s + n

-- the count t is s + n, or the largest
unfoldable pub IsCounted : ℕ → ℕ → ℕ → Type 0
IsCounted s t n = t ≡ min (s + n) (2 ^ 128 - 1)

-- the count grew from s to t: by n, or to the largest
abbrev pub TakesExactly : ℕ → ℕ → ℕ → Type 0
TakesExactly s t n = Takes s t n × IsCounted s t n

-- the count grew from s to t: by n at least, or to the largest
unfoldable pub TakesAtLeast : ℕ → ℕ → ℕ → Type 0
TakesAtLeast s t n = min (s + n) (2 ^ 128 - 1) ≤ t

-- the steps grew from s to t, and `before` pays for them and for `after`
abbrev pub CostsWithin : ℕ → ℕ → ℕ → ℕ → Type 0
CostsWithin s t before after = (s ≤ t) × (t + after ≤ s + before)
