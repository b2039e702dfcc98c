use Rattle.sedpass.proofs.ClassLemmas.{AreParted}
use Rattle.sedpass.proofs.classes.classes_of.Given as goal

abbrev pub invariant-loop-i : goal.invariant-loop-i
invariant-loop-i l = AreParted l.sets l.i l.classes.of l.classes.count l.alone
