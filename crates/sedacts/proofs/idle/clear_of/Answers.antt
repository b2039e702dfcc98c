use Rattle.std.proofs.Common.{◌∙◌, Some, ap}
use Rattle.sedacts.proofs.DecidingGroups.{le_same}
use Rattle.sedacts.proofs.Walking.{asked_by_then, asked_past, least_first}
use Rattle.sedacts.proofs.idle.clear_of.Goals as goal

pub returns-in_default : goal.returns-in_default
returns-in_default c =
    let w = c.in-Some-Line in
    record { fewer = le_same; clear = asked_by_then _ w.n c.args.number c.args.most (w.is ∙ ap (λ a. Some a) (rw w.is at w.field-0-is)) c.if-n-number.false }

pub returns-in-Some-Line : goal.returns-in-Some-Line
returns-in-Some-Line c =
    let w = c.in-Some-Line in
    record {
      fewer = least_first c.min.result c.args.most _ c.min.ensures;
      clear = asked_past _ w.n c.args.number c.args.most c.min.result (w.is ∙ ap (λ a. Some a) (rw w.is at w.field-0-is)) c.if-n-number.true c.min.ensures;
    }
