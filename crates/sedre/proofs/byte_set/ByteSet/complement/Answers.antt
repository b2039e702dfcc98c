use Rattle.std.proofs.Common.{◌≡◌, ◌-◌, ℕ, slice_index_or, ◌∷◌, [], List, w64, arith}
use Rattle.std.specs.Int.{bit_at}
use Rattle.std.proofs.lemmas.Nat.Bits.{bit_at_not}
use Rattle.sedre.proofs.ByteLemmas.{complement_is, at_each, word_small}
use Rattle.sedre.proofs.byte_set.ByteSet.complement.Goals as goal

pub returns : goal.returns
returns c =
    let words = c.self.inside.words in
    let turned : List ℕ = (18446744073709551615 - slice_index_or words 0 0) ∷ (18446744073709551615 - slice_index_or words 1 0) ∷ (18446744073709551615 - slice_index_or words 2 0) ∷ (18446744073709551615 - slice_index_or words 3 0) ∷ [] in
    complement_is words turned c.args.self.now c.self.view_is
    (λ place k inside small. at_each (λ p. bit_at (slice_index_or turned p 0) k ≡ 1 - bit_at (slice_index_or words p 0) k)
    (bit_at_not w64 (slice_index_or words 0 0) k (word_small words c.self.invariant 0 (omega arith)) small)
    (bit_at_not w64 (slice_index_or words 1 0) k (word_small words c.self.invariant 1 (omega arith)) small)
    (bit_at_not w64 (slice_index_or words 2 0) k (word_small words c.self.invariant 2 (omega arith)) small)
    (bit_at_not w64 (slice_index_or words 3 0) k (word_small words c.self.invariant 3 (omega arith)) small) place inside)
