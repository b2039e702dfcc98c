use Rattle.sedtext.proofs.Closing.{arith, cases_lt, passes_within}
use Rattle.sedtext.proofs.counted.sieve.Sieve.find_slowly.Goals as goal

pub loop-place-preserved : goal.loop-place-preserved
loop-place-preserved c i low high is = grind (arith, cases_lt i c.loop-place.place, c.loop-place.invariant i, c.passes.ensures)

pub returns-clause-first : goal.returns-clause-first
returns-clause-first c i low is = grind (arith, c.loop-place.invariant i, passes_within c.args.self.now c.args.bytes.now i)
