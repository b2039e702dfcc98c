use Rattle.sedtext.proofs.Closing.{arith, run_stops}
use Rattle.sedtext.proofs.counted.members.run_begin.Goals as goal

pub returns-then-not-has-clause-begins : goal.returns-then-not-has-clause-begins
returns-then-not-has-clause-begins c = run_stops _ _ _ _ _ _ c.uncounted-bytes.ensures c.requires.to (omega arith) (omega arith) (cc) c.loop-place.invariant.2
