use Rattle.std.proofs.Common.{◌≡◌, ◌++◌, drop, map, take}
use Rattle.std.specs.Prelude.{slice_index_or}
use Rattle.sedspace.proofs.space.translate_all.Given as goal

abbrev pub invariant-loop-byte : goal.invariant-loop-byte
invariant-loop-byte l =
    l.bytes ≡ map (λ b. slice_index_or l.table b b) (take l.byte-index l.fn.bytes) ++ drop l.byte-index l.fn.bytes
