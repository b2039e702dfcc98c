use Rattle.std.proofs.Common.{◌≡◌, ◌≤◌, ◌-◌, ◌++◌, length, drop}
use Rattle.sedscript.specs.Strings.{pieces_of, pieces_from}
use Rattle.sedscript.specs.Answers.{pieces_with}
use Rattle.sedscript.proofs.replacement.parts_of.Given as goal

abbrev pub invariant-bytes : goal.invariant-bytes
invariant-bytes l = (l.k ≤ length l.bytes) ×
    (pieces_of l.delimiter l.bytes ≡ pieces_with l.parts.items l.run.items ++ pieces_from l.delimiter l.escaped (drop l.k l.bytes))

abbrev pub decreases-bytes : goal.decreases-bytes
decreases-bytes l = length l.bytes - l.k
