use Rattle.std.proofs.Common.{◌≡◌, ◌≤◌, ◌-◌, ◌+◌, length, drop, false, true}
use Rattle.sedscript.specs.Strings.{string_fault}
use Rattle.sedscript.proofs.transliteration.string_fault.Given as goal

abbrev pub invariant-bytes : goal.invariant-bytes
invariant-bytes l = (l.k ≤ length l.bytes) × (l.escaped ≡ true → 1 ≤ l.k) ×
    (string_fault l.delimiter false l.from l.bytes ≡ string_fault l.delimiter l.escaped (l.from + l.k) (drop l.k l.bytes))

abbrev pub decreases-bytes : goal.decreases-bytes
decreases-bytes l = length l.bytes - l.k
