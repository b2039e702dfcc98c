use Rattle.std.proofs.Common.{◌≡◌, ◌≤◌, ◌-◌, ◌++◌, length, drop, false, true}
use Rattle.sedscript.specs.Strings.{chars_from, bytes_of}
use Rattle.sedscript.proofs.transliteration.bytes_of.Given as goal

abbrev pub invariant-bytes : goal.invariant-bytes
invariant-bytes l = (l.k ≤ length l.bytes) × (l.escaped ≡ true → 1 ≤ l.k) ×
    (bytes_of (chars_from l.delimiter false 0 l.bytes) ≡ l.string.items ++ bytes_of (chars_from l.delimiter l.escaped l.k (drop l.k l.bytes)))

abbrev pub decreases-bytes : goal.decreases-bytes
decreases-bytes l = length l.bytes - l.k
