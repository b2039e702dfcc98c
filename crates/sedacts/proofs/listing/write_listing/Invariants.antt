use Rattle.std.proofs.Common.{◌≡◌, [], length, Ok}
use Rattle.sedacts.specs.ListingParts.{WrittenInPart}
use Rattle.sedacts.specs.Calls.{Delivers}
use Rattle.sedacts.proofs.listing.write_listing.Given as goal

abbrev pub invariant-parts : goal.invariant-parts
invariant-parts g l = record {
  empty : l.gathered.bytes ≡ [];
  written : WrittenInPart (g.O.MeteredSinks.tally l.fn.outputs) (g.O.MeteredSinks.tally l.outputs) l.bytes l.rest l.gathered.column;
  devices : Delivers g.O.MeteredSinks.tally g.O.MeteredSinks.count l.fn.outputs l.outputs (Ok tt);
}

abbrev pub decreases-parts : goal.decreases-parts
decreases-parts g l = length l.rest
