use Rattle.sedtext.proofs.Closing.{byte_behind}
use Rattle.sedtext.proofs.counted.Text.find_byte.Goals as goal

pub returns-clause-first : goal.returns-clause-first
returns-clause-first c = rw c.found_behind.ensures.place (byte_behind _ _ _ c.uncounted.ensures c.requires.from _ _ c.memchr-found.ensures)
