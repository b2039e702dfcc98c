use Rattle.examples.proofs.TextReading.{plain_bytes as law}
use Rattle.examples.proofs.laws.plain_bytes.Goals as goal

pub returns : goal.returns
returns c = law
