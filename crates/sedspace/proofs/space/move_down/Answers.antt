use Rattle.std.proofs.Common.{◌≡◌, ◌≤◌, ◌+◌, ◌-◌, ap, sym, ◌∙◌, arith, take, drop, length, length-drop}
use Rattle.std.specs.List.{copy_within}
use Rattle.std.proofs.lemmas.List.{drop-take}
use Rattle.std.proofs.lemmas.List.Edits.{take-paste}
use Rattle.sedspace.proofs.space.move_down.Goals as goal

pub returns-clause-moved : goal.returns-clause-moved
returns-clause-moved c =
    let held = c.args.held.now.items in
    let front = c.args.front in
    let count = c.args.end - front in
    let inside = c.requires.inside in
    let whole : front + count ≡ c.args.end = omega (arith, c.requires.order) in
    let enough : count ≤ length (drop front held) = omega (arith, inside, c.requires.order, length-drop front held) in
    let start : count ≡ 0 + count = omega arith in
    ap (λ z. take count z) c.copy_within.ensures.items ∙ ap (λ n. take n (copy_within held front c.args.end 0)) start
    ∙ take-paste held 0 (drop front held) count (omega arith) enough ∙ sym (drop-take front count held) ∙ ap (λ z. drop front (take z held)) whole
