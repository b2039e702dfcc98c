use Rattle.std.proofs.Common.{◌≡◌, ◌≤◌, ◌-◌, length, drop, false}
use Rattle.sedscript.specs.Strings.{string_end}
use Rattle.sedscript.proofs.strings.string_end.Given as goal

abbrev pub invariant-bytes : goal.invariant-bytes
invariant-bytes l = (l.from ≤ l.at) × (l.at ≤ length l.text) × (string_end l.breaks l.delimiter false l.from (drop l.from l.text) ≡ string_end l.breaks l.delimiter l.escaped l.at (drop l.at l.text))

abbrev pub decreases-bytes : goal.decreases-bytes
decreases-bytes l = length l.text - l.at
