use Rattle.std.proofs.Common.{◌≡◌, ◌≤◌, ◌-◌, length, drop}
use Rattle.sedscript.specs.Arguments.{text_end}
use Rattle.sedscript.proofs.texts.text_end.Given as goal

abbrev pub invariant-bytes : goal.invariant-bytes
invariant-bytes l = (l.from ≤ l.at) × (l.at ≤ length l.text) × (text_end l.fn.start l.from (drop l.from l.text) ≡ text_end l.inside l.at (drop l.at l.text))

abbrev pub decreases-bytes : goal.decreases-bytes
decreases-bytes l = length l.text - l.at
