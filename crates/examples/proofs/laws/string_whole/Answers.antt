use Rattle.examples.proofs.WrittenEnds.{string_whole as law}
use Rattle.examples.proofs.laws.string_whole.Goals as goal

pub returns : goal.returns
returns c = law
