use Rattle.std.proofs.lemmas.Nat.Bits.{bit_at_or}
use Rattle.sedre.proofs.byte_set.either.Goals as goal

pub returns : goal.returns
returns c k = bit_at_or c.args.a c.args.b k
