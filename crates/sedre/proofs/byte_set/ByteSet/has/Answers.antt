use Rattle.std.proofs.Common.{arith}
use Rattle.sedre.proofs.ByteLemmas.{has_is, listed}
use Rattle.sedre.proofs.byte_set.ByteSet.has.Goals as goal

pub returns-clause-is : goal.returns-clause-is
returns-clause-is c = has_is c.self.inside.words c.args.self.now c.args.b c.from.result c.from.result c.has_bit.result c.self.view_is (omega arith) c.from.ensures c.has_bit.ensures

pub returns-clause-listed : goal.returns-clause-listed
returns-clause-listed c = listed c.self.inside.words c.args.self.now c.args.b c.has_bit.result c.self.view_is (omega arith) (has_is c.self.inside.words c.args.self.now c.args.b c.from.result c.from.result c.has_bit.result c.self.view_is (omega arith) c.from.ensures c.has_bit.ensures)
