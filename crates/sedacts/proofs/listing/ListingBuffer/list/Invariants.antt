use Rattle.std.proofs.Common.{◌≡◌, ◌+◌, ◌*◌, ◌≤◌, ◌++◌, List, length, ℕ}
use Rattle.sedacts.specs.Listing.{listed_from}
use Rattle.sedacts.proofs.listing.ListingBuffer.list.Given as goal

abbrev pub invariant-items : goal.invariant-items
invariant-items l = record {
  lists : (rest : List ℕ) → l.fn.self.bytes ++ listed_from l.fn.self.column (l.part ++ rest)
      ≡ l.self.bytes ++ listed_from l.self.column (l.rest ++ rest);
  room : length l.self.bytes + 6 * length l.rest ≤ length l.fn.self.bytes + 6 * length l.part;
}

abbrev pub decreases-items : goal.decreases-items
decreases-items l = length l.rest
