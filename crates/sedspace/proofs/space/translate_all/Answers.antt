use Rattle.std.proofs.Common.{arith}
use Rattle.sedspace.proofs.SpaceLemmas.{replaced_more}
use Rattle.sedspace.proofs.space.translate_all.Goals as goal

pub loop-byte-preserved : goal.loop-byte-preserved
loop-byte-preserved c =
    replaced_more c.args.table.now c.args.bytes.now c.loop-byte.bytes c.loop-byte.byte-index (omega arith) (omega arith) (omega arith) c.loop-byte.invariant
