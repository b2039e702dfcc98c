use Rattle.std.proofs.Common.{◌≡◌, min, take}
use Rattle.sedre.specs.Tokens.{decimal}
use Rattle.sedre.proofs.intervals.decimal.Given as goal

abbrev pub invariant-loop-digit : goal.invariant-loop-digit
invariant-loop-digit l = l.value ≡ min 256 (decimal 0 (take l.digit-index l.digits))
