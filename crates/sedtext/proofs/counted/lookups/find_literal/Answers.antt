use Rattle.sedtext.proofs.Closing.{literal_behind}
use Rattle.sedtext.proofs.counted.lookups.find_literal.Goals as goal

pub returns-clause-first : goal.returns-clause-first
returns-clause-first c = rw c.found_behind.ensures.place (literal_behind _ _ _ c.uncounted.ensures c.requires.from _ _ c.find-found.ensures)
