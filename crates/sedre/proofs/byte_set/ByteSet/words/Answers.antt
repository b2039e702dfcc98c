use Rattle.sedre.proofs.ByteLemmas.{words_are}
use Rattle.sedre.proofs.byte_set.ByteSet.words.Goals as goal

pub returns : goal.returns
returns c = words_are c.self.inside.words c.args.self.now c.self.view_is c.self.invariant
