use Rattle.std.proofs.Common.{◌≡◌, ◌≤◌, length, take, drop, reverse}
use Rattle.sedscript.specs.Script.{commands_in}
use Rattle.sedscript.specs.Tables.{ends_in, unopened}
use Rattle.sedscript.proofs.targets.ends_of.Given as goal

abbrev pub invariant-items : goal.invariant-items
invariant-items l = record {
  within : l.k ≤ length l.items;
  counted : l.n ≡ commands_in (take l.k l.items);
  ends : l.ends.items ≡ reverse (ends_in l.n (drop l.k l.items));
  stack : l.unopened.items ≡ reverse (unopened l.n (drop l.k l.items));
}

abbrev pub decreases-items : goal.decreases-items
decreases-items l = l.k
