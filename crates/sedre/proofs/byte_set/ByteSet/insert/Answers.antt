use Rattle.std.proofs.Common.{arith, slice_index_or, refl}
use Rattle.sedre.proofs.ByteLemmas.{insert_is}
use Rattle.sedre.proofs.byte_set.ByteSet.insert.Goals as goal

pub returns : goal.returns
returns c = insert_is c.self.inside.words c.args.self.now c.args.b c.from-at.result (slice_index_or c.self.inside.words c.from-at.result 0) c.set_bit.result c.self.view_is (omega arith) c.from-at.ensures c.self.told refl c.set_bit.ensures.same c.set_bit.ensures.other
