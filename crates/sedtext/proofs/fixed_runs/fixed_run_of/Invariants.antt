use Rattle.sedtext.proofs.Words.{◌≡◌, AllWithin, Byte}
use Rattle.sedtext.proofs.fixed_runs.fixed_run_of.Given as goal

abbrev pub invariant-loop-x : goal.invariant-loop-x
invariant-loop-x l = AllWithin (λ k. k ≡ Byte l.set) l.chain 0 l.x
