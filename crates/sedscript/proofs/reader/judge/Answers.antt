use Rattle.std.proofs.Common.{inl, sym, ◌∙◌}
use Rattle.sedscript.specs.FirstFault.{afterwards}
use Rattle.sedscript.proofs.reader.judge.Goals as goal

pub returns-in-Some-clause-fault : goal.returns-in-Some-clause-fault
returns-in-Some-clause-fault c =
    inl (afterwards c.cut_text.new.items c.cut_text.new.exprs.items c.in_ok-cut_text.field-0 c.in_ok-cut_text.ensures.cut.0 c.in_ok-cut_text.ensures.cut.1
    (sym c.target_fault.ensures ∙ c.in-Some.is))
