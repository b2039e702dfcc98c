use Rattle.sedtext.proofs.Closing.{member_behind}
use Rattle.sedtext.proofs.counted.set_finder.SetFinder.find.Goals as goal

pub returns-clause-first : goal.returns-clause-first
returns-clause-first c = rw c.found_behind.ensures.place (member_behind _ _ _ c.uncounted.ensures c.requires.from _ _ c.first_in-found.ensures)
