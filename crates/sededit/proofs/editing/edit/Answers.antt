use Rattle.sededit.proofs.EditLemmas.{BeginsOutput-at, IsOutput-at}
use Rattle.sededit.proofs.editing.edit.Goals as goal

pub returns-in-Ok-clause-ending : goal.returns-in-Ok-clause-ending
returns-in-Ok-clause-ending g c x known files shown =
    let e = c.in-Ok.ensures.edits x known files shown in
    (e.out, e.gained, e.ends)

pub returns-in-Ok-clause-output : goal.returns-in-Ok-clause-output
returns-in-Ok-clause-output g c x known files shown =
    let e = c.in-Ok.ensures.edits x known files shown in
    (e.out, e.gained.gained, BeginsOutput-at _ _ _ _ _ _ _ e.ends.cause)

pub returns-in-Ok-clause-whole : goal.returns-in-Ok-clause-whole
returns-in-Ok-clause-whole g c is x known files shown =
    let e = c.in-Ok.ensures.edits x known files shown in
    (e.out, e.gained.gained, IsOutput-at _ _ _ _ _ _ _ (cc) e.ends)
