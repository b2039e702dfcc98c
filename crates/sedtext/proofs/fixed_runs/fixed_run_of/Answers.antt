use Rattle.sedtext.proofs.Closing.{arith, runs_of_bytes}
use Rattle.sedtext.proofs.fixed_runs.fixed_run_of.Goals as goal

pub returns : goal.returns
returns c = runs_of_bytes _ _ c.loop-x.x c.loop-x.invariant (omega arith)
