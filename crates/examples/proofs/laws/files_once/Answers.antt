use Rattle.examples.proofs.NamesOnce.{files_once as law}
use Rattle.examples.proofs.laws.files_once.Goals as goal

pub returns : goal.returns
returns c = law
