use Rattle.std.proofs.Common.{inr}
use Rattle.sededit.proofs.program.answer_words.Goals as goal

pub returns : goal.returns
returns g c = inr ((cc), c.write_help.ensures)
