use Rattle.sedmatch.proofs.stretches.find_first.Goals as goal

pub returns-in-Some-clause-first : goal.returns-in-Some-clause-first
returns-in-Some-clause-first c = rw c.in-Some.is c.find.ensures.first
