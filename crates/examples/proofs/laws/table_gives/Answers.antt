use Rattle.examples.proofs.StringReading.{table_gives as law}
use Rattle.examples.proofs.laws.table_gives.Goals as goal

pub returns : goal.returns
returns c = law
