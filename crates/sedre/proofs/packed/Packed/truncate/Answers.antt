use Rattle.std.proofs.Common.{◌∙◌, sym, ap, subst, take}
use Rattle.sedre.specs.Packed.{FitFrom, nodes_from}
use Rattle.sedre.proofs.Packing.{fit-take, nodes-take}
use Rattle.sedre.proofs.packed.Packed.truncate.Goals as goal

pub invariant_of-self : goal.invariant_of-self
invariant_of-self c = subst (FitFrom c.self.inside.sets.items 0) (sym c.truncate.ensures.items) (fit-take c.self.inside.sets.items 0 c.args.count c.self.inside.entries.items c.self.invariant)

pub returns : goal.returns
returns c = ap (nodes_from c.self.inside.sets.items 0) c.truncate.ensures.items ∙ nodes-take c.self.inside.sets.items 0 c.args.count c.self.inside.entries.items ∙ ap (take c.args.count) c.self.view_is
