use Rattle.std.proofs.Common.{◌≡◌, ◌≤◌, ◌-◌, ◌+◌, length, drop, false, true}
use Rattle.sedscript.specs.Strings.{chars_from}
use Rattle.sedscript.proofs.transliteration.count.Given as goal

abbrev pub invariant-bytes : goal.invariant-bytes
invariant-bytes l = (l.k ≤ length l.bytes) × (l.escaped ≡ true → 1 ≤ l.k) × (l.count ≤ l.k) ×
    (length (chars_from l.delimiter false l.from l.bytes) ≡ l.count + length (chars_from l.delimiter l.escaped (l.from + l.k) (drop l.k l.bytes)))

abbrev pub decreases-bytes : goal.decreases-bytes
decreases-bytes l = length l.bytes - l.k
