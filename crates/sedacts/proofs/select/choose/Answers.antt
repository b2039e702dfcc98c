use Rattle.std.proofs.Common.{true, false, ap}
use Rattle.sedacts.specs.Choose.{turned_by_bang}
use Rattle.sedacts.proofs.select.choose.Goals as goal

pub returns-then-command : goal.returns-then-command
returns-then-command c = rw c.if-command.true (ap (turned_by_bang true) c.choose_straight-choice.ensures)

pub returns-else-command : goal.returns-else-command
returns-else-command c = rw c.if-command.false (ap (turned_by_bang false) c.choose_straight-choice.ensures)
