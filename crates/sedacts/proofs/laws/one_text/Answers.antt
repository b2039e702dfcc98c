use Rattle.sedacts.proofs.ListingTokens.{one_text}
use Rattle.sedacts.proofs.laws.one_text.Goals as goal

pub returns : goal.returns
returns c = one_text
