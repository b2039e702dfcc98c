use Rattle.sedtext.proofs.Closing.{◌-◌, ◌∙◌, ◌≡◌, arith, Byte, common_steps, lead_more, refl, slice_get, slice_get_read, Some, sym}
use Rattle.sedtext.proofs.branches.set_at.Goals as goal

pub loop-x-preserved : goal.loop-x-preserved
loop-x-preserved c =
    let set = c.in-Some-Byte.set in
    let read = rw c.deref.ensures.value at c.in-Some-Byte.ensures.lookup.3 in
    let is : slice_get c.index-branches-x.result.items c.args.offset ≡ Some (Byte set) = slice_get_read _ _ c.args.offset (Byte set) refl read.0 (sym c.in-Some-Byte.field-0-is ∙ read.1 (Byte set)) in
    let bytes = rw c.deref-in-loop-x.ensures.value at c.lead.ensures.sets in (
      omega arith,
      lead_more _ (c.loop-x.x - 1) c.loop-x.x c.args.offset c.lead.result _ set _ _ (omega arith) (omega arith) c.index-branches-x.is bytes (omega arith) is c.loop-x.invariant.1 c.union-members.ensures.members,
    )

pub returns : goal.returns
returns c nodes e are w i j at = grind (arith, common_steps)
