use Rattle.sedre.proofs.ByteLemmas.{folded_only}
use Rattle.sedre.proofs.byte_set.ByteSet.in_either_case.Goals as goal

pub returns : goal.returns
returns c = folded_only c.args.b c.other_case.result c.only-set.result c.insert.new.self c.other_case.ensures c.only-set.ensures c.insert.ensures
