use Rattle.std.proofs.Common.{arith}
use Rattle.sedspace.proofs.SpaceLemmas.{fewer}
use Rattle.sedspace.proofs.space.copy_in.Goals as goal

pub returns-then-held-end-ge-SHORT-clause-bytes : goal.returns-then-held-end-ge-SHORT-clause-bytes
returns-then-held-end-ge-SHORT-clause-bytes c =
    fewer c.copy_short.new.held c.args.held.now c.args.text.now c.args.end c.args.count 128 (omega (arith, c.requires.room)) (omega arith) c.copy_short.ensures.bytes
