use Rattle.std.proofs.Common.{◌≡◌, drop, length}
use Rattle.sedspace.specs.Memory.{piece_end}
use Rattle.sedspace.proofs.memory.source.MemorySource.next_end.Given as goal

-- the cuts that were passed by don't count
abbrev pub invariant-loop-cut : goal.invariant-loop-cut
invariant-loop-cut l =
    let s = l.self-inside in
    piece_end (drop l.cut-index s.cuts.items) s.taken (length s.bytes.items) ≡ piece_end s.cuts.items s.taken (length s.bytes.items)
