use Rattle.std.proofs.Common.{◌≡◌, ◌+◌, ◌*◌, ◌%◌, ◌^◌, ◌-◌, min, sym, ap, ◌∙◌, arith}
use Rattle.sedre.specs.Steps.{IsCounted}
use Rattle.sedre.proofs.steps.Steps.add.Goals as goal

pub returns-then-self-n : goal.returns-then-self-n
unfolding IsCounted
returns-then-self-n c =
    let was : c.args.self.now ≡ c.self.inside.low + 2 ^ 64 * c.self.inside.high = sym c.self.view_is in
    let sum : (c.self.inside.low + c.args.n) % 2 ^ 64 + 2 ^ 64 * (c.self.inside.high + 1) ≡ c.args.self.now + c.args.n = omega (arith, was, c.if-self-n.true, c.self.ranges, c.ranges.n) in
    let counted = c.carried.ensures ∙ ap (λ v. min v (2 ^ 128 - 1)) sum in
    record { cost = ((grind (arith, counted, was, c.self.invariant, c.self.ranges), grind (arith, counted)), counted) }

pub returns-else-self-n : goal.returns-else-self-n
unfolding IsCounted
returns-else-self-n c =
    let was : c.args.self.now ≡ c.self.inside.low + 2 ^ 64 * c.self.inside.high = sym c.self.view_is in
    let sum : (c.self.inside.low + c.args.n) % 2 ^ 64 + 2 ^ 64 * c.self.inside.high ≡ c.args.self.now + c.args.n = omega (arith, was, c.if-self-n.false, c.self.ranges, c.ranges.n) in
    record { cost = ((omega (arith, sum, was), omega (arith, sum, was)), grind (arith, sum, was, c.self.invariant, c.self.ranges)) }
