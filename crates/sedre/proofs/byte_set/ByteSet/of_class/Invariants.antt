use Rattle.std.proofs.Common.{◌≡◌, ◌&&◌, nat_lt}
use Rattle.sedre.specs.Sets.{set_of, in_class}
use Rattle.sedre.proofs.byte_set.ByteSet.of_class.Given as goal

abbrev pub invariant-loop-b : goal.invariant-loop-b
invariant-loop-b l = l.set ≡ set_of (λ c. in_class l.class c && nat_lt c l.b)
