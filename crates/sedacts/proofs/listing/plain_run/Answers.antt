use Rattle.sedacts.proofs.ListingLemmas.{plain_more}
use Rattle.std.proofs.Common.{arith}
use Rattle.sedacts.proofs.listing.plain_run.Goals as goal

pub bytes-preserved : goal.bytes-preserved
bytes-preserved c = plain_more c.args.bytes.now c.bytes.i (omega arith) c.bytes.invariant cc
