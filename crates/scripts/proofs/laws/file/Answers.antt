use Rattle.scripts.proofs.Famous.{file_law as law}
use Rattle.scripts.proofs.laws.file.Goals as goal

pub returns : goal.returns
returns c = law c.one_meaning.ensures
