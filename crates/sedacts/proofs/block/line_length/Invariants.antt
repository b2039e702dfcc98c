use Rattle.std.proofs.Common.{take}
use Rattle.sedspace.specs.Lines.{HasNoNewline}
use Rattle.sedacts.proofs.block.line_length.Given as goal

abbrev pub invariant-bytes : goal.invariant-bytes
invariant-bytes l = HasNoNewline (take l.place l.bytes)
