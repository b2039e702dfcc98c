use Rattle.std.proofs.Common.{◌≡◌, ◌≤◌, ◌-◌, length, drop, take}
use Rattle.sedscript.specs.Script.{target_fault, target_fault_in}
use Rattle.sedscript.specs.Tables.{blocks_in}
use Rattle.sedscript.proofs.commands.target_fault.Given as goal

abbrev pub invariant-items : goal.invariant-items
invariant-items l = record {
  within : l.k ≤ length l.items;
  few : l.blocks ≤ l.k;
  blocks : l.blocks ≡ blocks_in (take l.k l.items);
  depth : l.depth ≤ l.k;
  rest : target_fault l.text l.items ≡ target_fault_in l.text l.items (take l.k l.items) l.depth (drop l.k l.items);
}

abbrev pub decreases-items : goal.decreases-items
decreases-items l = length l.items - l.k
