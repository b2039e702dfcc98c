use Rattle.sedmatch.proofs.Words.{rules, ◌≡◌, ◌+◌, ◌-◌, ◌/◌, sym, subst, arith, HasSpace}
use Rattle.sedmatch.proofs.scratch.Scratch.new.Goals as goal

pub invariant_of-result : goal.invariant_of-result
invariant_of-result c =
    let text = c.args.max_text in
    let made = c.in_ok-new.ensures in
    let reverse_any = c.in_ok-with_room.ensures.table in
    let shared = c.in_ok-with_room-2.ensures in
    let width : c.in_ok-with_room-2.field-0.reverse_one.room - 1 ≡ c.width_for-block.result = omega (arith, shared.room.0) in (
      search (rules, subst (λ v. HasSpace text (text / v + 1) c.args.max_nodes c.in_ok-new.field-0) (sym width) made, reverse_any, shared, c.width_for-block.ensures.blocks c.requires.text),
      c.in_ok-analysis.ensures,
    )
