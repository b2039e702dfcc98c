use Rattle.std.proofs.Common.{ℕ, ◌∙◌, ◌∷◌, ◌++◌, [], sym, ap, subst, arith, refl}
use Rattle.sedre.specs.declared.packed.PackedNode.{PackedNode}
use Rattle.sedre.specs.Packed.{PartsBelow}
use Rattle.sedre.proofs.Packing.{fit_same, fit_more, nodes_more}
use Rattle.sedre.proofs.packed.add.Goals as goal

pub returns-in_err-number-clause-fits : goal.returns-in_err-number-clause-fits
returns-in_err-number-clause-fits c = λ p. fit_same _ _ _ _ c.in_err-number.ensures.grows refl p

pub returns-in_err-push-clause-fits : goal.returns-in_err-push-clause-fits
returns-in_err-push-clause-fits c = λ p. fit_same _ _ _ _ c.in_ok-number.ensures.grows c.in_err-push.ensures.items p

pub returns-clause-fits : goal.returns-clause-fits
returns-clause-fits c = λ p. fit_more _ _ _ _ c.len.result c.in_ok-number.number c.args.node (omega (arith, c.len.ensures)) c.in_ok-number.ensures.grows c.in_ok-number.ensures.number
    (c.in_ok-push.ensures.items ∙ ap (λ (e : PackedNode). c.args.entries.now.items ++ e ∷ []) c.entry_of-entry.ensures) p

pub returns-clause-nodes : goal.returns-clause-nodes
returns-clause-nodes c = λ p b. nodes_more _ _ _ _ c.len.result c.in_ok-number.number c.args.node (omega (arith, c.len.ensures)) c.in_ok-number.ensures.grows c.in_ok-number.ensures.number
    (c.in_ok-push.ensures.items ∙ ap (λ (e : PackedNode). c.args.entries.now.items ++ e ∷ []) c.entry_of-entry.ensures) p (subst (λ (m : ℕ). PartsBelow m c.args.node) (sym c.len.ensures) b)
