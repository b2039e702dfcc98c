use Rattle.examples.proofs.TextReading.{escaped_bytes as law}
use Rattle.examples.proofs.laws.escaped_bytes.Goals as goal

pub returns : goal.returns
returns c = law
