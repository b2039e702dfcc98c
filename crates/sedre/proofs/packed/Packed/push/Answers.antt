use Rattle.std.proofs.Common.{vec_len, arith}
use Rattle.sedre.proofs.Packing.{length-nodes, pushed_view, on_ok_map}
use Rattle.sedre.proofs.packed.Packed.push.Goals as goal

pub returns : goal.returns
returns c = pushed_view c.add.result _ (vec_len c.self.inside.entries) c.args.node _ _ c.self.view_is (omega (arith, length-nodes c.self.inside.sets.items 0 c.self.inside.entries.items))
    (on_ok_map c.add.result _ _ (λ f. f c.self.invariant) c.add.ensures.nodes)
