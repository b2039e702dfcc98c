use Rattle.sedmatch.proofs.Words.{rules}
use Rattle.sedmatch.proofs.occurrences.Occurrences.begin.Goals as goal

pub returns-clause-serves : goal.returns-clause-serves
returns-clause-serves c w es e is room = search (rules, room.each c.args.number e is)

pub returns-clause-room : goal.returns-clause-room
returns-clause-room c text es room = record { each = λ x e is. search (rules, room.each x e is) }
