use Rattle.std.proofs.Common.{◌≡◌, ◌≤◌, length, drop}
use Rattle.sedscript.specs.Strings.{table_of}
use Rattle.sedscript.proofs.transliteration.table_from.Given as goal

abbrev pub invariant-pairs : goal.invariant-pairs
invariant-pairs l = (l.k ≤ length l.string1) × (l.k ≤ length l.string2) × (length l.table.items ≡ 256) × (l.table.items ≡ table_of (drop l.k l.string1) (drop l.k l.string2))

abbrev pub decreases-pairs : goal.decreases-pairs
decreases-pairs l = l.k
