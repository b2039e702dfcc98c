use Rattle.scripts.proofs.Famous.{bytes_law as law}
use Rattle.scripts.proofs.laws.transliterated.Goals as goal

pub returns : goal.returns
returns c = law c.one_meaning.ensures
