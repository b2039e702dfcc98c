use Rattle.sedre.proofs.ByteLemmas.{none_is}
use Rattle.sedre.proofs.byte_set.ByteSet.none.Goals as goal

pub returns : goal.returns
returns c = none_is
