-- Runs of bytes of a set.
use Rattle.sedtext.proofs.Words.{◌≤◌, arith, Bool, byte_of, CopiesLead, IsRun, length, List, Matches, no_copy, one_more, SetRepeats, ℕ}
use Rattle.sedtext.proofs.FixedRunLemmas.{repeated_in}
use Rattle.sedtext.proofs.SpanLemmas.{CopiesLead-forward}

-- a run goes forward
pub run_forward : (members : List Bool) (w : List ℕ) (i k : ℕ) → IsRun members w i k → i ≤ k
run_forward members w i k run = CopiesLead-forward (Matches (byte_of members) w) k i run.1

-- the longest of the copies is the run
pub run_longest : (members : List Bool) (w : List ℕ) (i k : ℕ) → IsRun members w i k →
    (k ≤ length w) × SetRepeats members w i k × ((j : ℕ) → SetRepeats members w i j → j ≤ k)
run_longest members w i k run = grind (arith, run_forward members w i k run, repeated_in members w k)

-- copies of relations of which one has what the other has
pub copies_alike : (R S : ℕ → ℕ → Type 0) → ((p q : ℕ) → R p q → S p q) → (j i : ℕ) → CopiesLead R j i → CopiesLead S j i
copies_alike R S each j i no_copy = no_copy
copies_alike R S each j i (one_more _ k lt r rest) = one_more i k lt (each i k r) (copies_alike R S each j k rest)
