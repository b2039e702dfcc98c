use Rattle.std.proofs.Common.{◌≡◌, ◌+◌, ◌*◌, ◌/◌, ◌%◌, ◌<◌, ℕ, List, slice_index_or, ap, ◌∙◌, arith}
use Rattle.std.specs.Int.{bit_at}
use Rattle.sedre.proofs.byte_set.first_member.Goals as goal

-- the bit of a byte by its word and its place there
bit_of : (words : List ℕ) (place k bit : ℕ) → place ≡ k → bit < 64 → bit_at (slice_index_or words place 0) bit ≡ 1 →
    bit_at (slice_index_or words ((64 * k + bit) / 64) 0) ((64 * k + bit) % 64) ≡ 1
bit_of words place k bit same small is =
    ap (λ x. bit_at (slice_index_or words x 0) ((64 * k + bit) % 64)) (let e : (64 * k + bit) / 64 ≡ place = omega arith in e)
    ∙ ap (λ x. bit_at (slice_index_or words place 0) x) (let e : (64 * k + bit) % 64 ≡ bit = omega arith in e)
    ∙ is

pub returns-then-word-ne0 : goal.returns-then-word-ne0
returns-then-word-ne0 c = bit_of c.args.words.now c.from.result c.loop-k.k c.lowest_bit.result c.from.ensures c.lowest_bit.ensures.within c.lowest_bit.ensures.set
