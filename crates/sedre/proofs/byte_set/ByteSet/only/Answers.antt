use Rattle.sedre.proofs.ByteLemmas.{only_is}
use Rattle.sedre.proofs.byte_set.ByteSet.only.Goals as goal

pub returns : goal.returns
returns c = only_is c.args.b c.none-set.result c.insert.new.self c.none-set.ensures c.insert.ensures
