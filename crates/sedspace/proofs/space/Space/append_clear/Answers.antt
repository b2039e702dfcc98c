use Rattle.std.proofs.Common.{◌≡◌, ap, arith, sym, ◌∙◌, drop, take, length}
use Rattle.std.proofs.lemmas.List.{length-take-le}
use Rattle.sedspace.proofs.ClearLemmas.{clear_with_count}
use Rattle.sedspace.proofs.space.Space.append_clear.Goals as goal

pub invariant_of-self : goal.invariant_of-self
invariant_of-self c =
    let s = c.self.inside in
    let p = c.append_to-front.ensures in
    let bytes = drop s.front (take s.end s.held.items) in
    let size : c.len-len.result ≡ length bytes = c.len-len.ensures.value ∙ ap (λ z. length z.bytes) (sym c.self.view_is) in
    let more = length-take-le c.args.count c.args.text.now c.requires.inside in
    let clear = clear_with_count s.clear_first s.clear_last c.len-len.result c.args.count bytes (take c.args.count c.args.text.now) size (sym more) c.self.invariant.5 c.requires.clear in
    (p.lies.0, p.lies.1, p.within, omega (arith, p.capacity, c.self.invariant), p.ended, rw (p.bytes, c.clear_with-self-inside.ensures) clear)
