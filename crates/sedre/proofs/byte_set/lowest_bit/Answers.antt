use Rattle.std.proofs.Common.{w64}
use Rattle.std.proofs.lemmas.Nat.Bits.{bit_at-trailing_zeros}
use Rattle.sedre.proofs.byte_set.lowest_bit.Goals as goal

pub returns-clause-set : goal.returns-clause-set
returns-clause-set c = (bit_at-trailing_zeros w64 c.args.word c.requires c.ranges.word.fits).1
