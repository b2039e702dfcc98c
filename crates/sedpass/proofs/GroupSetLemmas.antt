-- The bits of a set of groups.
use Rattle.sedpass.proofs.Words.{rules, ◌≡◌, ℕ, zero, suc, ◌-◌, ◌*◌, ◌%◌, ◌^◌, ◌<◌, ◌≤◌, ◌&&◌, ◌||◌, not, IsTrue, ap, arith, bit_and, bit_or, w16, eqb, common_steps, bit_at, trailing_zeros, and-false, mod-eq_of_lt, bit_at_or, bit_at_and, bit_at_not, bit_at-lt, bit_at-zero, bit_at-pow_same, bit_at-pow_other, bit_at_above, bit_at_ones, bit_at-trailing_zeros, and_le_r, ne_eqb, cases_eq, eq-eqb, lt-ltb, ltb-true, GroupSet, pow_mono, reported, holds}

abbrev of_bits : ℕ → GroupSet
of_bits n = record { bits = n }

-- what holds of each two bits
pub two_bits : (P : ℕ → ℕ → Type 0) → P 0 0 → P 0 1 → P 1 0 → P 1 1 → (a b : ℕ) → a < 2 → b < 2 → P a b
two_bits P p q r s zero zero small small' = p
two_bits P p q r s zero (suc zero) small small' = q
two_bits P p q r s (suc zero) zero small small' = r
two_bits P p q r s (suc zero) (suc zero) small small' = s
two_bits P p q r s a b small small' = absurd (omega arith)

pub holds_union : (a b k : ℕ) → holds (of_bits (bit_or a b)) k ≡ (holds (of_bits a) k || holds (of_bits b) k)
holds_union a b k = search (rules, bit_at_or, two_bits, bit_at-lt)

pub holds_without : (a b k : ℕ) → b < 65536 → holds (of_bits (bit_and a (65535 - b))) k ≡ (holds (of_bits a) k && not (holds (of_bits b) k))
holds_without a b k small = grind (arith, common_steps, ltb-true, bit_at_and, bit_at-lt, bit_at_not w16 b k small)

pub holds_one : (k n : ℕ) → 1 ≤ k → k ≤ 9 → holds (of_bits (1 * 2 ^ k % 65536)) n ≡ (reported n && eqb k n)
holds_one k n low high = grind (arith, common_steps, pow_mono, mod-eq_of_lt, bit_at-pow_same, lt-ltb, eq-eqb, bit_at-pow_other, ne_eqb, and-false, cases_eq)

pub meet_in : (a b : ℕ) → a < 65536 → (bit_and (bit_and a b) 1023 ≡ 0 → ⊥) → (k : ℕ) × IsTrue (holds (of_bits a) k) × IsTrue (holds (of_bits b) k)
meet_in a b small some =
    let n = bit_and (bit_and a b) 1023 in
    let k = trailing_zeros w16 n in
    let few : n < 1024 = omega (arith, and_le_r (bit_and a b) 1023) in
    let bit : bit_at n k ≡ 1 = (bit_at-trailing_zeros w16 n (omega arith) (omega arith)).1 in
    let low : k < 10 = grind (arith, bit_at_above n 10 k few) in
    (k, search (rules, bit_at_and (bit_and a b) 1023 k, bit_at_and a b k, bit_at-lt a k, lt-ltb, eq-eqb), search (rules, bit_at_and (bit_and a b) 1023 k, bit_at_and a b k, bit_at-lt b k, lt-ltb, eq-eqb))

pub in_both : (a b k : ℕ) → IsTrue (holds (of_bits a) k) → IsTrue (holds (of_bits b) k) → bit_and (bit_and a b) 1023 ≡ 0 → ⊥
in_both a b k one other none = grind (arith, common_steps, ltb-true, bit_at_ones 10 k, ap (λ n. bit_at n k) none, bit_at-zero k, bit_at_and (bit_and a b) 1023 k, bit_at_and a b k)
