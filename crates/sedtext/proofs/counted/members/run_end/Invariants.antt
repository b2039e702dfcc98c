use Rattle.sedtext.proofs.Words.{◌≡◌, SetRepeats}
use Rattle.sedtext.proofs.counted.members.run_end.Given as goal

abbrev pub invariant-loop-place : goal.invariant-loop-place
invariant-loop-place l = SetRepeats l.set l.bytes l.from l.place × (l.steps ≡ l.fn.steps)
