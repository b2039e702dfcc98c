use Rattle.sedpass.proofs.Words.{◌<◌, true, false, length, refl, arith, get_or-replicate, get_or-set_same, slice_get_read, rules}
use Rattle.sedpass.proofs.ClassLemmas.{apart_more, parted_more, parted_none}
use Rattle.sedpass.proofs.classes.classes_of.Goals.{in-Some, in-Some-2, in_default}
use Rattle.sedpass.proofs.classes.classes_of.Goals as goal

pub loop-i-init : goal.loop-i-init
loop-i-init c = parted_none _ _ _ refl refl (λ b. get_or-replicate 256 b 0 0) (λ b. get_or-replicate 256 b false false)

pub loop-i-preserved : goal.loop-i-preserved
loop-i-preserved c =
    let sets = c.args.sets.now in
    let alone = c.loop-i.alone in
    let read = slice_get_read sets (length sets) c.loop-i.i c.index-sets-i.result refl (omega arith) c.index-sets-i.is in
    elim c.match-sole.branch [
      | in-Some w ↦ rw (w.classes-is, w.alone-is) (search (rules, read, w.in-Some.ensures.member, w.if-alone-byte.true))
      | in-Some-2 w ↦
          let fits : w.in-Some.byte < 256 = omega (arith, rw w.in-Some.is at c.sole.type_inv) in
          rw (w.classes-is, w.alone-is) (search (rules, read, w.in-Some.ensures.member, get_or-set_same alone w.in-Some.byte true false, apart_more _ _ alone w.in-Some.byte _ _ w.if-classes-lt256.true fits c.loop-i.invariant))
      | in_default w ↦ rw (w.classes-is, w.alone-is) (parted_more _ _ w.index-sets-i-in_default.result alone _ _ _ _ (slice_get_read sets (length sets) _ _ refl (omega arith) w.index-sets-i-in_default.is) c.loop-i.invariant w.split-classes.ensures)
    ]
