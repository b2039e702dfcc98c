use Rattle.sedtext.proofs.Words.{has, Nowhere, Passes}
use Rattle.sedtext.proofs.counted.members.first_member.Given as goal

abbrev pub invariant-loop-place : goal.invariant-loop-place
invariant-loop-place l = Nowhere (Passes (has l.set) l.bytes) 0 l.place
