use Rattle.std.proofs.Common.{◌≤◌, ◌-◌, length}
use Rattle.sedscript.specs.Script.{CutScript}
use Rattle.sedscript.proofs.reader.cut_text.Given as goal

abbrev pub invariant-items : goal.invariant-items
invariant-items l = record {
  within : l.at ≤ length l.source.text.now;
  cut : CutScript l.source.text.now l.source.kind l.source.max_nodes 0 0 l.items l.exprs.items l.at;
}

abbrev pub decreases-items : goal.decreases-items
decreases-items l = length l.source.text.now - l.at
