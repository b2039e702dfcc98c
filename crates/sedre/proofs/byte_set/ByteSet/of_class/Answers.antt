use Rattle.std.proofs.Common.{sym, ◌∙◌}
use Rattle.sedre.specs.Sets.{in_class}
use Rattle.sedre.proofs.ByteLemmas.{filled_more, filled_less}
use Rattle.sedre.proofs.byte_set.ByteSet.of_class.Goals as goal
use Rattle.sedre.proofs.byte_set.ByteSet.of_class.Goals.{then-has, else-has}

pub loop-b-preserved : goal.loop-b-preserved
loop-b-preserved c = elim c.if-has.branch [
  | then-has w ↦ filled_more (in_class c.args.class) c.loop-b.b c.loop-b.set c.if-has.set c.loop-b.invariant (sym c.has.ensures ∙ w.if-has.true) (w.set-is ∙ w.insert.ensures)
  | else-has w ↦ filled_less (in_class c.args.class) c.loop-b.b c.loop-b.set c.if-has.set c.loop-b.invariant (sym c.has.ensures ∙ w.if-has.false) w.set-is
]
