use Rattle.std.proofs.Common.{◌≡◌, ◌+◌, ◌-◌, ◌≤◌, ◌++◌, take, drop, length, sym, ap, ◌∙◌, arith, take-add}
use Rattle.std.proofs.lemmas.List.{append_assoc, take-take}
use Rattle.sedspace.proofs.space.copy_short.Goals as goal

pub returns-clause-bytes : goal.returns-clause-bytes
returns-clause-bytes c =
    let text = c.args.text.now in
    let front = take c.args.end c.args.held.now in
    let whole : c.args.end + 128 ≡ c.args.end + 64 + 64 = omega arith in
    let inside = c.requires.inside in
    let left : 64 ≤ length text - 64 = omega (arith, inside) in
    ap (λ n. take n c.copy_block-2.new.held) whole ∙ c.copy_block-2.ensures.bytes ∙ ap (λ z. z ++ take 64 (take (length text - 64) (drop 64 text))) c.copy_block.ensures.bytes
    ∙ ap (λ z. (front ++ take 64 text) ++ z) (take-take 64 (length text - 64) (drop 64 text) left)
    ∙ append_assoc front (take 64 text) (take 64 (drop 64 text)) ∙ ap (λ z. front ++ z) (sym (take-add 64 64 text))
