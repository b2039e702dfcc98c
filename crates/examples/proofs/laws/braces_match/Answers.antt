use Rattle.examples.proofs.BracesMatched.{braces_match as law}
use Rattle.examples.proofs.laws.braces_match.Goals as goal

pub returns : goal.returns
returns c = law
