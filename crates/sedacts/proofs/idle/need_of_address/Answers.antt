use Rattle.std.proofs.Common.{◌∙◌, ap, subst, sym}
use Rattle.sedscript.specs.declared.types.Address.TheVariants.{Match}
use Rattle.sedacts.specs.Idle.{NeedWithin, need_of_address}
use Rattle.sedacts.proofs.Walking.{need_within}
use Rattle.sedacts.proofs.idle.need_of_address.Goals as goal

pub returns-in-Line : goal.returns-in-Line
returns-in-Line c =
    let is = ap need_of_address (sym c.in-Line.is) in
    record { is = is; within = λ n h. subst (NeedWithin n) (sym is) (need_within n c.args.address h) }

pub returns-in-Last : goal.returns-in-Last
returns-in-Last c =
    let is = ap need_of_address (sym c.in-Last.is) in
    record { is = is; within = λ n h. subst (NeedWithin n) (sym is) (need_within n c.args.address h) }

pub returns-in-Match-Some : goal.returns-in-Match-Some
returns-in-Match-Some c =
    let w = c.in-Match-Some in
    let is = ap need_of_address (sym (w.is ∙ ap Match (rw w.is at w.field-0-is))) in
    record { is = is; within = λ n h. subst (NeedWithin n) (sym is) (need_within n c.args.address h) }

pub returns-in-Match-None : goal.returns-in-Match-None
returns-in-Match-None c =
    let w = c.in-Match-None in
    let is = ap need_of_address (sym (w.is ∙ ap Match (rw w.is at w.field-0-is))) in
    record { is = is; within = λ n h. subst (NeedWithin n) (sym is) (need_within n c.args.address h) }
