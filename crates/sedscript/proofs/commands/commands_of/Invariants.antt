use Rattle.std.proofs.Common.{◌≡◌, ◌≤◌, ◌-◌, ◌++◌, [], length, drop, take}
use Rattle.sedscript.specs.Script.{commands_of}
use Rattle.sedscript.specs.Tables.{blocks_in}
use Rattle.sedscript.specs.Parts.{OperandsAre}
use Rattle.sedscript.proofs.commands.commands_of.Given as goal

abbrev pub invariant-items : goal.invariant-items
invariant-items l = record {
  within : l.k ≤ length l.items;
  few : l.blocks ≤ l.k;
  blocks : l.blocks ≡ blocks_in (take l.k l.items);
  operands : OperandsAre l.text l.items (take l.k l.items) l.operands;
  rest : commands_of l.text l.items [] l.items ≡ l.commands.items ++ commands_of l.text l.items (take l.k l.items) (drop l.k l.items);
}

abbrev pub decreases-items : goal.decreases-items
decreases-items l = length l.items - l.k
