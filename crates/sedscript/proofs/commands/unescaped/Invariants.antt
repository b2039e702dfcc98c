use Rattle.std.proofs.Common.{◌≡◌, ◌≤◌, ◌-◌, ◌++◌, length, drop, false}
use Rattle.sedscript.specs.Script.{unescaped_from}
use Rattle.sedscript.proofs.commands.unescaped.Given as goal

abbrev pub invariant-bytes : goal.invariant-bytes
invariant-bytes l = (l.k ≤ length l.bytes) × (unescaped_from false l.bytes ≡ l.plain.items ++ unescaped_from l.escaped (drop l.k l.bytes))

abbrev pub decreases-bytes : goal.decreases-bytes
decreases-bytes l = length l.bytes - l.k
