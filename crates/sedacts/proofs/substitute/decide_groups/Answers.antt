use Rattle.std.proofs.Common.{refl}
use Rattle.sedacts.proofs.substitute.decide_groups.Goals as goal

pub returns : goal.returns
returns c =
    let w = c.groups_of-findings.ensures in
    record {
      same = w.same;
      groups = rw c.new.ensures at w.groups;
      groups_in = rw c.new.ensures at w.lies;
      searches = refl;
      scratch = w.scratch;
      cost = rw c.new.ensures at w.cost;
      linear_cost = w.linear_cost;
    }

pub groups_of-findings-requires : goal.groups_of-findings-requires
groups_of-findings-requires c = record {
  order = c.requires.lies.0;
  inside = rw c.new.ensures c.requires.lies.1;
  spans = rw c.new.ensures c.requires.spans;
  fits = rw c.new.ensures (c.requires.text, c.requires.nodes);
}
