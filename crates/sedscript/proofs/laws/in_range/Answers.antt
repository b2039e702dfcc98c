use Rattle.sedscript.proofs.Bounds.{means_in_range as law}
use Rattle.sedscript.proofs.laws.in_range.Goals as goal

pub returns : goal.returns
returns c = law
