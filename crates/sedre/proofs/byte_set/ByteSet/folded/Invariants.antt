use Rattle.std.proofs.Common.{◌≡◌, ◌&&◌, ◌||◌, nat_lt}
use Rattle.sedre.specs.Sets.{set_of, has, other_case}
use Rattle.sedre.proofs.byte_set.ByteSet.folded.Given as goal

abbrev pub invariant-loop-b : goal.invariant-loop-b
invariant-loop-b l = l.set ≡ set_of (λ c. (has l.self c || has l.self (other_case c)) && nat_lt c l.b)
