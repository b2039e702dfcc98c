use Rattle.std.proofs.Common.{◌≤◌, ◌-◌, length, take}
use Rattle.sedscript.specs.Script.{files_in}
use Rattle.sedscript.specs.Tables.{AreNumbered}
use Rattle.sedscript.proofs.files.numbered.Given as goal

abbrev pub invariant-items : goal.invariant-items
invariant-items l = record {
  within : l.k ≤ length l.items;
  few : length l.files.names.items ≤ l.k;
  numbered : AreNumbered l.first (files_in l.file_use l.text (take l.k l.items)) l.files;
}

abbrev pub decreases-items : goal.decreases-items
decreases-items l = length l.items - l.k
