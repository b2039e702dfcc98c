use Rattle.sedmatch.proofs.Words.{rules}
use Rattle.sedmatch.proofs.passes.new_passes.Goals as goal

pub returns : goal.returns
returns c = (
  search (rules, c.fit.ensures.analysis, c.in_ok-hints.ensures),
  elim c.if-states-min.branch [ goal.then-states-min+in_ok-tables w ↦ rw (w.own-is, ← w.of-then-states-min.ensures.is) w.fit-then-states-min.ensures.tables | goal.else-states-min w ↦ rw w.own-is tt ],
)
