use Rattle.sedtext.proofs.Closing.{◌≡◌, AllMarked, length}
use Rattle.sedtext.proofs.counted.nibbles.Nibbles.of.Given as goal

abbrev pub invariant-loop-byte : goal.invariant-loop-byte
invariant-loop-byte l = (length l.rows ≡ 16) × AllMarked l.set l.byte l.rows
