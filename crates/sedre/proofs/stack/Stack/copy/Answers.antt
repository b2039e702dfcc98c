use Rattle.std.proofs.Common.{◌-◌, ◌∙◌, ◌++◌, ◌∷◌, [], List, ap, refl}
use Rattle.sedre.specs.declared.parts.TreeExtent.{TreeExtent}
use Rattle.sedre.proofs.Written.{popped}
use Rattle.sedre.proofs.Stacked.{stored_copy}
use Rattle.sedre.proofs.stack.Stack.copy.Goals as goal

pub returns-clause-trees : goal.returns-clause-trees
returns-clause-trees c = λ limit ts a s.
    let before = popped _ _ _ _ c.pop.ensures.items c.unwrap-part.ensures in
    let one : TreeExtent = record { end = c.sum_within-end.result; depth = c.unwrap-part.result.depth; inner = c.unwrap-part.result.inner } in
    stored_copy limit c.args.self.now _ ts a c.pop.new.self.items c.unwrap-part.result one c.saturating_sub-size.result s before
    (c.saturating_sub-size.ensures ∙ ap (λ n. c.unwrap-part.result.end - n) c.end.ensures) c.sum_within-end.ensures refl refl c.in_ok-copy_nodes.ensures.limit
    (c.in_ok-push-2.ensures.items ∙ ap (λ (x : List TreeExtent). x ++ one ∷ []) (c.in_ok-push.ensures.items ∙ ap (λ v. v.items ++ c.unwrap-part.result ∷ []) c.in_ok-copy_nodes.ensures.parts))
    c.in_ok-copy_nodes.ensures.kept c.in_ok-copy_nodes.ensures.over
