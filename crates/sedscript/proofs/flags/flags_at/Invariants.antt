use Rattle.std.proofs.Common.{◌≡◌, ◌≤◌, ◌-◌, length, drop}
use Rattle.sedscript.specs.Arguments.{no_flags, flags_from}
use Rattle.sedscript.proofs.flags.flags_at.Given as goal

abbrev pub invariant-flags : goal.invariant-flags
invariant-flags l = (l.from ≤ l.at) × (l.at ≤ length l.text) × (flags_from l.text l.empty no_flags 0 l.from (drop l.from l.text) ≡ flags_from l.text l.empty l.flags 0 l.at (drop l.at l.text))

abbrev pub decreases-flags : goal.decreases-flags
decreases-flags l = length l.text - l.at
