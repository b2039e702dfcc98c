use Rattle.sedre.proofs.Exclusive.{reads_one, reads_groups}
use Rattle.sedre.proofs.laws.reads_as_one.Goals as goal

pub returns : goal.returns
returns c = λ kind folded delimiter text one other groups more q r. (reads_one kind folded delimiter text q r, reads_groups kind folded delimiter text q r)
