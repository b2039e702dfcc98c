use Rattle.sedtext.proofs.Words.{◌+◌, ◌-◌, IsLiteral, length}
use Rattle.sedtext.proofs.links.literal_at.Given as goal

abbrev pub invariant-loop-bytes : goal.invariant-loop-bytes
invariant-loop-bytes l = IsLiteral l.chain l.from l.bytes.items

abbrev pub decreases-loop-bytes : goal.decreases-loop-bytes
decreases-loop-bytes l = length l.chain - (l.from + length l.bytes.items)
