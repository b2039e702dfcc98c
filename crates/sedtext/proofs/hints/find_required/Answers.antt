use Rattle.sedtext.proofs.Closing.{all_hold, arith, lt-leb}
use Rattle.sedtext.proofs.hints.find_required.Goals as goal

pub loop-from-preserved-then-len : goal.loop-from-preserved-then-len
loop-from-preserved-then-len c = (all_hold c.args.chain.now c.loop-from.from c.in_ok-bytes.bytes.items c.in_ok-bytes.ensures.literal, grind (arith, lt-leb 2 c.len-is_prefix.result))
