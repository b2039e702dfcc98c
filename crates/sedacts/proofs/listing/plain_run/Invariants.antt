use Rattle.std.proofs.Common.{take}
use Rattle.sedacts.specs.ListingParts.{AreListedPlain}
use Rattle.sedacts.proofs.listing.plain_run.Given as goal

abbrev pub invariant-bytes : goal.invariant-bytes
invariant-bytes l = AreListedPlain (take l.i l.bytes)
