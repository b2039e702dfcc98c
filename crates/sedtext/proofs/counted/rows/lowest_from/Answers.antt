use Rattle.sedtext.proofs.Words.{◌<◌, ◌*◌, ◌^◌, ◌%◌, ◌-◌, ℕ, ◌≡◌, ◌≤◌, arith, bit_and, bit_at, bit_at-lt, bit_at-trailing_zeros, bit_at-zero, bit_at_and, bit_at_not, bit_at_ones, bit_at_ones_above, common_steps, one_shl, w64, and_le_l}
use Rattle.sedtext.proofs.counted.rows.lowest_from.Goals as goal

-- the word without the bits below the k-th
abbrev high_of : ℕ → ℕ → ℕ
high_of word k = bit_and word (18446744073709551615 - (1 * 2 ^ k % 18446744073709551616 - 1))

high_bits : (word k i : ℕ) → k < 64 → i < 64 → (k ≤ i → bit_at (high_of word k) i ≡ bit_at word i) × (i < k → bit_at (high_of word k) i ≡ 0)
high_bits word k i small below = grind (arith, common_steps, bit_at-lt, bit_at_and, bit_at_ones, bit_at_ones_above, one_shl, bit_at_not w64 (1 * 2 ^ k % 18446744073709551616 - 1) i)

pub returns-then-high-eq0 : goal.returns-then-high-eq0
returns-then-high-eq0 c = grind (arith, high_bits c.args.word c.args.k, bit_at-zero)

pub returns-else-high-eq0 : goal.returns-else-high-eq0
returns-else-high-eq0 c =
    let low = bit_at-trailing_zeros w64 (high_of c.args.word c.args.k) (omega (arith, c.if-high-eq0.false)) (omega (arith, and_le_l c.args.word (18446744073709551615 - (1 * 2 ^ c.args.k % 18446744073709551616 - 1)), c.ranges.word)) in
    grind (arith, low, high_bits c.args.word c.args.k)
