use Rattle.std.proofs.Common.{◌≤◌, ◌+◌, ap, sym, ◌∙◌, arith, take, drop, length, length-take, length-drop}
use Rattle.std.proofs.lemmas.Grind.{common_steps}
use Rattle.std.proofs.lemmas.List.{drop-take, take-take}
use Rattle.sedspace.proofs.ClearLemmas.{clear_take}
use Rattle.sedspace.proofs.space.Space.truncate.Goals as goal

pub returns-then-count-len : goal.returns-then-count-len
returns-then-count-len c =
    let s = c.self.inside in
    let held = s.held.items in
    let count = c.args.count in
    let size = ap (λ z. length z.bytes) c.self.view_is in
    let low : s.front + count ≤ s.end = omega (arith, c.len.ensures.value, c.if-count-len.true, size, length-drop s.front (take s.end held), length-take s.end held) in
    let kept = ap (λ z. drop s.front z) (c.end_line.ensures.bytes ∙ sym (take-take (s.front + count) s.end held low)) ∙ drop-take s.front count (take s.end held) in
    rw (← c.self.view_is) (ap (λ z. record { bytes = z; limit = s.most }) kept)

pub invariant_of-self : goal.invariant_of-self
invariant_of-self c =
    let s = c.self.inside in
    let held = s.held.items in
    let count = c.args.count in
    let h = c.self.invariant in
    let size = ap (λ z. length z.bytes) c.self.view_is in
    let long = length-drop s.front (take s.end held) in
    let whole = length-take s.end held in
    let low : s.front + count ≤ s.end = omega (arith, c.len.ensures.value, c.if-count-len.true, size, long, whole) in
    let kept = ap (λ z. drop s.front z) (c.end_line.ensures.bytes ∙ sym (take-take (s.front + count) s.end held low)) ∙ drop-take s.front count (take s.end held) in
    let clear = clear_take s.clear_first s.clear_last count (drop s.front (take s.end held)) (omega (arith, low, long, whole, h.1)) h.5 in
    (omega arith, omega (arith, low, h.1, c.end_line.ensures.len), omega (arith, h.2, c.end_line.ensures.len), omega (arith, h.3, c.end_line.ensures.capacity), c.end_line.ensures.ended, rw (kept, c.min-self-inside.ensures) clear)

pub returns-else-count-len : goal.returns-else-count-len
returns-else-count-len c = grind (arith, common_steps)
