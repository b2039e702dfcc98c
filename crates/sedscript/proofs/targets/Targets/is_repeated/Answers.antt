use Rattle.std.proofs.Common.{ap, sym, ◌∙◌}
use Rattle.sedscript.specs.Tables.{is_earlier}
use Rattle.sedscript.proofs.Labels.{label_repeated}
use Rattle.sedscript.proofs.targets.Targets.is_repeated.Goals as goal

pub returns-in-None : goal.returns-in-None
returns-in-None c = λ text items i t is l.
    sym (ap (is_earlier c.args.k) c.in-None.is) ∙ label_repeated text c.args.name.now items c.args.self.now.labels c.first_label.result c.args.k i t.labelled_so c.first_label.ensures is l

pub returns-in-Some : goal.returns-in-Some
returns-in-Some c = λ text items i t is l.
    sym (ap (is_earlier c.args.k) c.in-Some.is) ∙ label_repeated text c.args.name.now items c.args.self.now.labels c.first_label.result c.args.k i t.labelled_so c.first_label.ensures is l
