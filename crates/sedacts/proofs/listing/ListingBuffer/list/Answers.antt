use Rattle.std.proofs.Common.{arith}
use Rattle.sedacts.proofs.ListingLemmas.{lists_more}
use Rattle.std.proofs.lemmas.Grind.{common_steps}
use Rattle.sedacts.proofs.listing.ListingBuffer.list.Goals as goal

pub items-preserved : goal.items-preserved
items-preserved c = record {
  lists = lists_more c.args.self.now c.items.self c.list_some-count.new.self c.items.rest.now c.list_some-count.result c.args.part.now c.items.invariant.lists c.list_some-count.ensures.lists;
  room = grind (arith, common_steps);
}
