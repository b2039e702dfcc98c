use Rattle.scripts.proofs.Unbroken.{line_for_line_law as law}
use Rattle.scripts.proofs.laws.line_for_line.Goals as goal

pub returns : goal.returns
returns c = law
