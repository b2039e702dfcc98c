use Rattle.std.proofs.Common.{◌≡◌, ◌∙◌, ◌+◌, ℕ, List, Bool, true, Option, is_none, is_some, ap, sym, drop, take}
use Rattle.std.proofs.lemmas.Slice.Eq.{bytes_eq-Decides}
use Rattle.sedscript.specs.Types.{Verb, OpenBlock, RepeatedLabel}
use Rattle.sedscript.specs.Script.{written_in, is_label, label_in, target_fault_at}
use Rattle.sedscript.specs.Bytes.{fault_if}
use Rattle.sedscript.specs.Letters.{is_open}
use Rattle.sedscript.proofs.TargetFaults.{missing}
use Rattle.sedscript.proofs.commands.target_fault_at.Goals as goal

pub returns-in-Open : goal.returns-in-Open
returns-in-Open c = λ items t at end.
    c.fault_if.ensures
    ∙ (ap (λ (b : Bool). fault_if b OpenBlock c.args.item.place) (missing c.args.end c.is_none.result c.is_none.ensures ∙ ap (λ (o : Option ℕ). is_none o) (end (ap is_open c.in-Open.is)))
    ∙ ap (λ (v : Verb). target_fault_at c.args.text.now items (take c.args.k items) c.args.depth (drop (c.args.k + 1) items) c.args.item.place v c.args.item.argument) (sym c.in-Open.is))

pub returns-in-Label : goal.returns-in-Label
returns-in-Label c = λ items t at end.
    let name : List ℕ = c.written_in-name.result.now in
    let own : is_label c.args.text.now name c.args.item.verb c.args.item.argument ≡ true =
    ap (λ (v : Verb). is_label c.args.text.now name v c.args.item.argument) c.in-Label.is ∙ (bytes_eq-Decides (written_in c.args.text.now c.args.item.argument) name).1 (sym c.written_in-name.ensures) in
    c.fault_if-in-Label.ensures
    ∙ (ap (λ (b : Bool). fault_if b RepeatedLabel c.args.item.place)
    (c.is_repeated.ensures c.args.text.now items c.args.item t at own ∙ ap (λ (n : List ℕ). is_some (label_in c.args.text.now n 0 (take c.args.k items))) c.written_in-name.ensures)
    ∙ ap (λ (v : Verb). target_fault_at c.args.text.now items (take c.args.k items) c.args.depth (drop (c.args.k + 1) items) c.args.item.place v c.args.item.argument) (sym c.in-Label.is))
