-- Counts of steps that stay at the largest: how many looks there were at least.
use Rattle.sedtext.proofs.Words.{◌+◌, ◌≡◌, ◌≤◌, arith, TakesAtLeast, ℕ}

-- nothing is counted yet
pub least_none : (s n : ℕ) → n ≡ 0 → TakesAtLeast s s n
unfolding TakesAtLeast
least_none s n e = omega (arith, e)

-- one after the other
pub least_both : (s a b n k m : ℕ) → TakesAtLeast s a n → TakesAtLeast a b k → m ≤ n + k → TakesAtLeast s b m
unfolding TakesAtLeast
least_both s a b n k m before more is = omega (arith, before, more, is)

-- and others before them, or after them
pub least_since : (s a b n : ℕ) → s ≤ a → TakesAtLeast a b n → TakesAtLeast s b n
unfolding TakesAtLeast
least_since s a b n grows after = omega (arith, grows, after)

pub least_up : (s a b n : ℕ) → TakesAtLeast s a n → a ≤ b → TakesAtLeast s b n
unfolding TakesAtLeast
least_up s a b n before grows = omega (arith, before, grows)

pub least_less : (s t n k : ℕ) → TakesAtLeast s t n → k ≤ n → TakesAtLeast s t k
unfolding TakesAtLeast
least_less s t n k before less = omega (arith, before, less)
