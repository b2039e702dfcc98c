-- Limits of the examples.
use Rattle.std.proofs.Common.{ℕ}
use Rattle.sedengine.specs.State.{LimitsView}
use Rattle.sedengine.specs.LimitRanges.{limits_of}

-- the program's own, but for the turns
abbrev pub turns : ℕ → LimitsView
turns most = limits_of 1048576 4096 65536 most 16384

-- the program's own
abbrev pub own : LimitsView
own = turns 18446744073709551615
