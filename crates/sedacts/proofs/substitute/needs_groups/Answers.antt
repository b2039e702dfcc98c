use Rattle.std.proofs.Common.{arith, refl}
use Rattle.sedacts.proofs.PieceLemmas.{none_here}
use Rattle.sedacts.proofs.substitute.needs_groups.Goals as goal

pub loop-part-preserved : goal.loop-part-preserved
loop-part-preserved c =
    none_here c.args.parts.now c.loop-part.part-index c.part-item.result (omega arith) c.part-item.is
    c.in_default.not-Group c.loop-part.invariant

pub loop-part-init : goal.loop-part-init
loop-part-init c = refl
