use Rattle.std.proofs.Common.{arith}
use Rattle.std.proofs.lemmas.Grind.{common_steps}
use Rattle.sedacts.proofs.listing.ListingBuffer.put_item.Goals as goal

pub returns : goal.returns
returns c = grind (arith, common_steps)
