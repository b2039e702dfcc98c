use Rattle.std.proofs.Common.{◌≡◌, ◌≤◌, ◌-◌, ◌+◌, length, drop, false, true}
use Rattle.sedscript.specs.Strings.{replacement_fault}
use Rattle.sedscript.proofs.replacement.replacement_fault.Given as goal

abbrev pub invariant-bytes : goal.invariant-bytes
invariant-bytes l = (l.k ≤ length l.bytes) × (l.escaped ≡ true → 1 ≤ l.k) ×
    (replacement_fault l.strings.delimiter l.limit false l.from l.bytes ≡ replacement_fault l.strings.delimiter l.limit l.escaped (l.from + l.k) (drop l.k l.bytes))

abbrev pub decreases-bytes : goal.decreases-bytes
decreases-bytes l = length l.bytes - l.k
