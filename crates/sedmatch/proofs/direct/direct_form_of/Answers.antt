use Rattle.sedmatch.proofs.Words.{arith}
use Rattle.sedmatch.proofs.StretchLemmas.{either_direct}
use Rattle.sedmatch.proofs.direct.direct_form_of.Goals as goal

pub returns-in-Some-stretch_at_ends : goal.returns-in-Some-stretch_at_ends
returns-in-Some-stretch_at_ends c = record {
  form = either_direct c.args.expr.now c.args.chain.now c.in-Some-2.left.items c.in-Some-2.right.items c.in-Some-stretch_at_ends.stretch c.requires.chain (omega arith) (rw c.in-Some-2.is at c.in_ok-left.ensures.some)
      (rw (← c.deref-2.ensures.value, ← c.deref-3.ensures.value) c.in-Some-stretch_at_ends.ensures) (omega arith) c.groups.ensures.expr;
}
