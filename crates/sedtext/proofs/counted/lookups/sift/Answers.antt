use Rattle.sedtext.proofs.counted.lookups.sift.Goals as goal

pub returns-in-None-clause-first : goal.returns-in-None-clause-first
returns-in-None-clause-first c = rw (← c.uncounted-bytes.ensures) c.in-None.ensures.first

pub returns-in-Some-clause-first : goal.returns-in-Some-clause-first
returns-in-Some-clause-first c = rw (← c.uncounted-bytes.ensures) c.in-Some.ensures.first
