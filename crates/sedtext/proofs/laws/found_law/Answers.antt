use Rattle.sedtext.proofs.MatchingLemmas.{found-iff}
use Rattle.sedtext.proofs.laws.found_law.Goals as goal

pub returns-clause-some : goal.returns-clause-some
returns-clause-some c = found-iff
