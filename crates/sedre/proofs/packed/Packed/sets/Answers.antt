use Rattle.std.proofs.Common.{◌≡◌, ◌∙◌, sym, ap, subst, ℕ, List, Bool, Some, slice_get}
use Rattle.sedre.specs.declared.types.Node.{Node}
use Rattle.sedre.proofs.Packing.{set_listed}
use Rattle.sedre.proofs.packed.Packed.sets.Goals as goal

pub returns : goal.returns
returns c x m is =
    subst (λ (s : List (List Bool)). (k : ℕ) × (slice_get s k ≡ Some m)) (sym c.deref.ensures.value)
    (set_listed c.self.inside.sets.items 0 c.self.inside.entries.items x m c.self.invariant (ap (λ (ns : List Node). slice_get ns x) c.self.view_is ∙ is))
