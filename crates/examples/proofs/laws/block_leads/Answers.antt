use Rattle.examples.proofs.BracesMatched.{block_leads as law}
use Rattle.examples.proofs.laws.block_leads.Goals as goal

pub returns : goal.returns
returns c = law
