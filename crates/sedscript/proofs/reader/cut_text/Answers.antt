use Rattle.std.proofs.Common.{inl, inr, length, arith}
use Rattle.std.proofs.lemmas.Result.{err_from_is_err_and}
use Rattle.sedscript.specs.FirstFault.{early}
use Rattle.sedscript.proofs.Cuts.{cut_next, cut_ends, end_here, next_here, cut_start}
use Rattle.sedscript.proofs.reader.cut_text.Goals as goal

pub items-init : goal.items-init
items-init c = record { within = omega arith; cut = cut_start c.args.source.now.text.now c.args.source.now.kind c.args.source.now.max_nodes _ _ c.requires.empty.0 c.requires.empty.1 }

pub returns-in_err-item_at-clause-fault : goal.returns-in_err-item_at-clause-fault
returns-in_err-item_at-clause-fault c =
    let p = err_from_is_err_and c.from_residual.result c.from_residual.ensures.1 in
    rw (p.1, p.2) (elim c.in_err-item_at.ensures.comes [ inl h ↦ inl (early c.items.items c.items.exprs.items c.items.at c.items.invariant.cut h) | inr e ↦ inr e ])

pub returns-in-Ends-clause-cut : goal.returns-in-Ends-clause-cut
returns-in-Ends-clause-cut c =
    let ends = end_here c.args.source.now.text.now c.items.at c.in_ok-item_at.field-0 c.in-Ends.is c.in_ok-item_at.ensures.here in
    let h = c.in_ok-item_at.ensures.comes in
    (cut_ends c.args.source.now.text.now c.args.source.now.kind c.args.source.now.max_nodes (length c.items.exprs.items) c.items.at c.items.items c.items.exprs.items c.item_at.new.exprs.items _ c.items.invariant.cut ends h.0 h.1 h.2, ends)

pub items-preserved : goal.items-preserved
items-preserved c =
    let h = c.in_ok-item_at.ensures.comes in
    record {
      within = (next_here c.args.source.now.text.now c.items.at c.in-Is.next c.in-Is.item c.in_ok-item_at.field-0 c.in-Is.is c.in_ok-item_at.ensures.here).1;
      cut = cut_next c.args.source.now.text.now c.args.source.now.kind c.args.source.now.max_nodes c.items.at c.in-Is.next c.items.items c.push.new.self c.items.exprs.items c.item_at.new.exprs.items c.in-Is.item c.in_ok-item_at.field-0 c.items.invariant.cut c.in-Is.is h.0 h.1 h.2 c.in_ok-push-in-Is.ensures;
    }

pub items-smaller : goal.items-smaller
items-smaller c =
    let h = next_here c.args.source.now.text.now c.items.at c.in-Is.next c.in-Is.item c.in_ok-item_at.field-0 c.in-Is.is c.in_ok-item_at.ensures.here in
    omega (arith, h.0, h.1)
