use Rattle.sedpass.proofs.Words.{◌≡◌, ℕ, ◌<◌, length, min, slice_index_or}
use Rattle.sedpass.proofs.cells.columns_of.Given as goal

abbrev pub invariant-loop-byte : goal.invariant-loop-byte
invariant-loop-byte l = record {
  wide : length l.columns ≡ 256;
  limited : (k : ℕ) → k < l.byte → slice_index_or l.columns k 0 ≡ min (slice_index_or l.classes k 0) l.last;
}
