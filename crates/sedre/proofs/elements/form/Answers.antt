use Rattle.std.proofs.Common.{◌+◌, length, arith, sym, ◌∙◌}
use Rattle.sedre.proofs.ElementLemmas.{form_is}
use Rattle.sedre.proofs.elements.form.Goals as goal

pub returns-in-Some-clause-is : goal.returns-in-Some-clause-is
returns-in-Some-clause-is c =
    form_is c.args.kind c.in-Some.more (length c.args.bytes.now + 2) c.args.bytes.now c.form_of.result (omega arith) (sym c.before_closing.ensures.is ∙ c.in-Some.is) (omega (arith, c.in-Some.ensures.within)) c.form_of.ensures
