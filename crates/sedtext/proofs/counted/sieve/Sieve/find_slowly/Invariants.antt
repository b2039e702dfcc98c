use Rattle.sedtext.proofs.Words.{◌<◌, ◌≤◌, PassesSieve, ℕ}
use Rattle.sedtext.proofs.counted.sieve.Sieve.find_slowly.Given as goal

abbrev pub invariant-loop-place : goal.invariant-loop-place
invariant-loop-place l = (i : ℕ) → l.from ≤ i → i < l.place → PassesSieve l.self l.bytes i → ⊥
