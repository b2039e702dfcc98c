use Rattle.std.proofs.Common.{arith}
use Rattle.sedre.proofs.Packing.{length-nodes, nodes_again, fit_again, added_again, copied_view, on_ok_map}
use Rattle.sedre.proofs.packed.Packed.copy_last.Goals as goal

pub invariant_of-self : goal.invariant_of-self
invariant_of-self c = fit_again c.self.inside.sets.items c.extend_from_within.result c.saturating_sub-from.result _ c.self.inside.entries.items _ c.extend_from_within.ensures.items c.self.invariant

pub returns : goal.returns
returns c = copied_view c.extend_from_within.result _ _ _ c.args.count c.self.view_is
    (on_ok_map c.extend_from_within.result _ _ (λ e h. nodes_again c.self.inside.sets.items c.saturating_sub-from.result c.args.count c.self.inside.entries.items _ (omega (arith, c.len.ensures, c.saturating_sub-from.ensures)) e c.self.invariant (omega (arith, h, length-nodes c.self.inside.sets.items 0 c.self.inside.entries.items)))
    (added_again c.extend_from_within.result c.saturating_sub-from.result _ c.self.inside.entries.items _ (omega (arith, c.self.inside.entries.ok)) c.extend_from_within.ensures.items))
