use Rattle.sedre.proofs.ByteLemmas.{any_is}
use Rattle.sedre.proofs.byte_set.ByteSet.any.Goals as goal

pub returns : goal.returns
returns c = any_is c.only.result c.complement.result c.only.ensures c.complement.ensures
