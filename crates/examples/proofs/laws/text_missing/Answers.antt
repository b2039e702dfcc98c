use Rattle.examples.proofs.MissingText.{text_missing as law}
use Rattle.examples.proofs.laws.text_missing.Goals as goal

pub returns : goal.returns
returns c = law
