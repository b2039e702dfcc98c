use Rattle.sedtext.proofs.Closing.{◌≤◌, AllLeadTo, drop, length}
use Rattle.sedtext.proofs.branches.set_at.Given as goal

abbrev pub invariant-loop-x : goal.invariant-loop-x
invariant-loop-x l = (l.x ≤ length l.branches) × AllLeadTo (drop l.x l.branches) l.offset l.members
