use Rattle.std.proofs.Common.{◌≡◌, ◌&&◌, nat_lt}
use Rattle.sedre.specs.Sets.{set_of, is_between}
use Rattle.sedre.proofs.byte_set.ByteSet.range.Given as goal

abbrev pub invariant-loop-b : goal.invariant-loop-b
invariant-loop-b l = l.set ≡ set_of (λ c. is_between l.first l.last c && nat_lt c l.b)
