use Rattle.sedtext.proofs.Words.{◌-◌, ◌<◌, ◌≤◌, length, PassesSieve, ℕ}
use Rattle.sedtext.proofs.counted.sieve.Sieve.find.Given as goal

abbrev pub invariant-loop-place : goal.invariant-loop-place
invariant-loop-place l = (l.from ≤ l.place) × (l.place ≤ length l.bytes) × ((i : ℕ) → l.from ≤ i → i < l.place → PassesSieve l.self l.bytes i → ⊥)

abbrev pub decreases-loop-place : goal.decreases-loop-place
decreases-loop-place l = l.last - l.place
