use Rattle.sedtext.proofs.hints.Hints.next_start.Goals as goal

pub returns-in-With-clause-first : goal.returns-in-With-clause-first
returns-in-With-clause-first c = rw c.in-With.is c.find.ensures.first

pub returns-in-Before-clause-first : goal.returns-in-Before-clause-first
returns-in-Before-clause-first c = rw c.in-Before.is c.sift.ensures.first
