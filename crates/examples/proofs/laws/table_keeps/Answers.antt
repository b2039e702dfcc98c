use Rattle.examples.proofs.StringReading.{table_keeps as law}
use Rattle.examples.proofs.laws.table_keeps.Goals as goal

pub returns : goal.returns
returns c = law
