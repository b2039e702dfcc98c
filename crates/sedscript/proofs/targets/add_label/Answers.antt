use Rattle.std.proofs.Common.{◌∙◌, ℕ, List, ap, sym}
use Rattle.std.specs.Str.{bytes_eq}
use Rattle.sedscript.specs.Types.{Verb}
use Rattle.sedscript.specs.Script.{is_label}
use Rattle.sedscript.proofs.Labels.{label_inserted}
use Rattle.sedscript.proofs.targets.add_label.Goals as goal

pub returns-in-Ok : goal.returns-in-Ok
returns-in-Ok c =
    label_inserted c.args.text.now c.written_in-name.result.now c.args.k c.args.n c.args.item.verb c.args.item.argument c.contains_key.result c.args.labels.now c.insert.new.self
    (λ name. ap (λ (v : Verb). is_label c.args.text.now name v c.args.item.argument) c.in-Label.is ∙ ap (λ (bs : List ℕ). bytes_eq bs name) (sym c.written_in-name.ensures))
    c.in-Ok.ensures.updates c.contains_key.ensures c.if-contains_key.false
