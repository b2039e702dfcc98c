use Rattle.std.proofs.Common.{◌≡◌, ◌≤◌, ◌-◌, length, take}
use Rattle.sedscript.specs.Script.{commands_in}
use Rattle.sedscript.specs.Tables.{LabelsAre}
use Rattle.sedscript.proofs.targets.targets_of.Given as goal

abbrev pub invariant-items : goal.invariant-items
invariant-items l = record {
  within : l.k ≤ length l.items;
  few : l.commands ≤ l.k;
  counted : l.commands ≡ commands_in (take l.k l.items);
  labels : LabelsAre l.text (take l.k l.items) l.labels;
}

abbrev pub decreases-items : goal.decreases-items
decreases-items l = length l.items - l.k
