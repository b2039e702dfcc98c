use Rattle.sedmatch.proofs.Words.{◌≡◌, ◌+◌, Some, ap, arith, length, FirstFrom, OccursAt}
use Rattle.sedmatch.proofs.direct.form_span.Goals as goal

pub returns-in-None-find_literal-clause-span : goal.returns-in-None-find_literal-clause-span
returns-in-None-find_literal-clause-span c = rw c.in-Literal.is (λ i j low within s. c.in-None-find_literal.ensures.first i low s.0)

pub returns-in-Some-find_literal-clause-span : goal.returns-in-Some-find_literal-clause-span
returns-in-Some-find_literal-clause-span c =
    let long : c.after-in-Some-find_literal.result ≡ c.in-Some-find_literal.start + length c.in-Literal.finder = omega (arith, c.after-in-Some-find_literal.ensures, ap length c.needle.ensures) in
    let here : FirstFrom (OccursAt c.args.text.now c.in-Literal.finder) c.args.from (Some c.in-Some-find_literal.start) = c.in-Some-find_literal.ensures.first in
    rw c.in-Literal.is (here.0, (here.1, long), omega (arith, here.1.fits, long), (λ k h. omega (arith, h.1, long)), λ h k low lt s. here.2 h low lt s.0)
