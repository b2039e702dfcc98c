use Rattle.sedscript.specs.Bytes.{with_digits}
use Rattle.std.proofs.Common.{◌≡◌, ◌≤◌, ◌-◌, length, drop, Some}
use Rattle.sedscript.proofs.bytes.number_of.Given as goal

abbrev pub invariant-digits : goal.invariant-digits
invariant-digits l = (l.at ≤ length l.digits) × (with_digits (Some 0) l.digits ≡ with_digits l.n (drop l.at l.digits))

abbrev pub decreases-digits : goal.decreases-digits
decreases-digits l = length l.digits - l.at
