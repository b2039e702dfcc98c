use Rattle.std.proofs.Common.{arith}
use Rattle.sedre.proofs.Bounds.{decimal_more}
use Rattle.sedre.proofs.intervals.decimal.Goals as goal

pub loop-digit-preserved : goal.loop-digit-preserved
loop-digit-preserved c = decimal_more c.args.digits.now c.loop-digit.digit-index c.saturating_sub.result c.loop-digit.value c.min-value.result (omega arith) c.saturating_sub.ensures c.loop-digit.invariant c.min-value.ensures
