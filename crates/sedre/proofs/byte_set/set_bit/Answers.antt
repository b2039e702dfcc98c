use Rattle.std.proofs.Common.{w64}
use Rattle.std.proofs.lemmas.Nat.Bits.{bit_at_set_same, bit_at_set_other}
use Rattle.sedre.proofs.byte_set.set_bit.Goals as goal

pub returns-clause-same : goal.returns-clause-same
returns-clause-same c = bit_at_set_same w64 c.args.word c.args.k c.requires

pub returns-clause-other : goal.returns-clause-other
returns-clause-other c i lt apart = bit_at_set_other w64 c.args.word c.args.k c.requires i apart
