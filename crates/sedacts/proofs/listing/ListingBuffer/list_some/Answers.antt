use Rattle.std.proofs.Common.{ap, arith}
use Rattle.sedacts.specs.ListingParts.{Listing}
use Rattle.sedacts.proofs.ListingLemmas.{lists_found}
use Rattle.sedacts.proofs.listing.ListingBuffer.list_some.Goals as goal

pub returns-clause-lists : goal.returns-clause-lists
returns-clause-lists c =
    let same = ap (λ (l : Listing). l.column) c.self.view_is in
    let run = c.plain_run-run in
    rw c.put_run.ensures (lists_found c.args.self.now c.args.part.now run.result c.min-most.result c.self.inside.column
    same (omega arith) (omega arith) run.ensures.within run.ensures.plain)
