use Rattle.std.proofs.Common.{◌≡◌, take}
use Rattle.std.specs.List.{count_by}
use Rattle.sedspace.specs.Lines.{is_newline}
use Rattle.sedacts.proofs.block.count_few.Given as goal

abbrev pub invariant-bytes : goal.invariant-bytes
invariant-bytes l = l.count ≡ count_by is_newline (take l.byte-index l.bytes)
