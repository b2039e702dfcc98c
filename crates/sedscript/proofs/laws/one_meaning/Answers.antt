use Rattle.sedscript.proofs.OneMeaning.{one_meaning as law}
use Rattle.sedscript.proofs.laws.one_meaning.Goals as goal

pub returns : goal.returns
returns c = law c.reads_as_one.ensures
