use Rattle.std.proofs.Common.{ap, length, arith}
use Rattle.sedre.proofs.Packing.{length-nodes}
use Rattle.sedre.proofs.packed.Packed.len.Goals as goal

pub returns : goal.returns
returns c = omega (arith, c.len.ensures, ap length c.self.view_is, length-nodes c.self.inside.sets.items 0 c.self.inside.entries.items)
