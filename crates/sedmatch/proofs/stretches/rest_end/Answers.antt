use Rattle.sedmatch.proofs.Words.{run_longest}
use Rattle.sedmatch.proofs.stretches.rest_end.Goals as goal

pub returns-in-Some-clause-to : goal.returns-in-Some-clause-to
returns-in-Some-clause-to c = rw c.in-Some.is (run_longest c.in-Some.members c.args.text.now c.args.from c.run_end.result c.run_end.ensures.run)
