use Rattle.sedre.proofs.ByteLemmas.{same_is}
use Rattle.sedre.proofs.byte_set.ByteSet.same.Goals as goal

pub returns : goal.returns
returns c = same_is c.self.inside.words c.other.inside.words c.args.self.now c.args.other.now c.eq.result c.self.view_is c.other.view_is c.self.invariant c.other.invariant c.eq.ensures
