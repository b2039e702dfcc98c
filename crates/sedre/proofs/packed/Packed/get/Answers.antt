use Rattle.std.proofs.Common.{◌≡◌, ◌∙◌, sym, ap, subst, length, ℕ, ◌+◌, arith, slice_get, Some, List, Bool}
use Rattle.sedre.specs.declared.types.Node.{Node}
use Rattle.sedre.specs.Packed.{NodeFits, node_at}
use Rattle.sedre.proofs.Packing.{length-nodes, nodes-get, fit-get, known}
use Rattle.sedre.proofs.packed.Packed.get.Goals as goal

pub index-requires : goal.index-requires
index-requires c = omega (arith, c.requires, ap length c.self.view_is, length-nodes c.self.inside.sets.items 0 c.self.inside.entries.items)

pub node_at-requires : goal.node_at-requires
node_at-requires c =
    let h = fit-get c.self.inside.sets.items 0 c.args.index c.self.inside.entries.items c.index.result.now c.self.invariant (known c.self.inside.entries.items c.args.index c.index.result.now (omega (arith, c.requires, ap length c.self.view_is, length-nodes c.self.inside.sets.items 0 c.self.inside.entries.items)) c.index.ensures) in
    let F : List (List Bool) → ℕ → Type 0 = λ s n. NodeFits s n c.index.result.now in
    let zero : 0 + c.args.index ≡ c.args.index = omega arith in
    subst (λ (n : ℕ). F c.deref.result.now n) zero (subst (λ (s : List (List Bool)). F s (0 + c.args.index)) (sym c.deref.ensures.value) h)

pub returns : goal.returns
returns c =
    let h = nodes-get c.self.inside.sets.items 0 c.args.index c.self.inside.entries.items c.index.result.now (known c.self.inside.entries.items c.args.index c.index.result.now (omega (arith, c.requires, ap length c.self.view_is, length-nodes c.self.inside.sets.items 0 c.self.inside.entries.items)) c.index.ensures) in
    let zero : 0 + c.args.index ≡ c.args.index = omega arith in
    ap (λ (ns : List Node). slice_get ns c.args.index) (sym c.self.view_is) ∙ h
    ∙ ap (λ (n : ℕ). Some (node_at c.self.inside.sets.items n c.index.result.now)) zero
    ∙ ap (λ (s : List (List Bool)). Some (node_at s c.args.index c.index.result.now)) (sym c.deref.ensures.value)
    ∙ ap (λ (n : Node). Some n) (sym c.node_at.ensures)
