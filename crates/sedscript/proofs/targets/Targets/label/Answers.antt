use Rattle.std.proofs.Common.{ap, sym, ◌∙◌, option_map}
use Rattle.sedscript.specs.declared.targets.FirstLabel.{FirstLabel}
use Rattle.sedscript.proofs.Labels.{label_found}
use Rattle.sedscript.proofs.targets.Targets.label.Goals as goal

pub returns-in-None : goal.returns-in-None
returns-in-None c = λ text items t.
    sym (ap (option_map (λ (l : FirstLabel). l.number)) c.in-None.is) ∙ label_found text c.args.name.now items c.args.self.now.labels c.first_label.result t.labelled_so c.first_label.ensures

pub returns-in-Some : goal.returns-in-Some
returns-in-Some c = λ text items t.
    sym (ap (option_map (λ (l : FirstLabel). l.number)) c.in-Some.is) ∙ label_found text c.args.name.now items c.args.self.now.labels c.first_label.result t.labelled_so c.first_label.ensures
