use Rattle.sedtext.proofs.Words.{◌-◌, IsLiteral, IsTrue, length}
use Rattle.sedtext.proofs.LinkLemmas.{AllHold}
use Rattle.sedtext.proofs.hints.find_required.Given as goal

abbrev pub invariant-loop-from : goal.invariant-loop-from
invariant-loop-from l = AllHold l.chain l.literal.items × (IsTrue l.is_prefix → IsLiteral l.chain 0 l.literal.items)

abbrev pub decreases-loop-from : goal.decreases-loop-from
decreases-loop-from l = length l.chain - l.from
