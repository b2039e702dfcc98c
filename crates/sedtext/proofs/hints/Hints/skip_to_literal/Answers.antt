use Rattle.sedtext.proofs.Closing.{required_first}
use Rattle.sedtext.proofs.hints.Hints.skip_to_literal.Goals as goal

pub returns-then-required-clause-narrowed : goal.returns-then-required-clause-narrowed
returns-then-required-clause-narrowed c e hints = required_first e _ _ c.in-Some.required _ c.in-Some.is hints.required _ c.if-required.true c.in_ok-place-in-Some.ensures.first

pub returns-then-required-clause-none : goal.returns-then-required-clause-none
returns-then-required-clause-none c = rw c.in-Some.is (λ none. absurd (none _ c.in_ok-place-in-Some.ensures.first.0 c.in_ok-place-in-Some.ensures.first.1))

pub returns-else-required-clause-none : goal.returns-else-required-clause-none
returns-else-required-clause-none c = rw c.in-Some.is (λ none. absurd (none _ c.in_ok-place-in-Some.ensures.first.0 c.in_ok-place-in-Some.ensures.first.1))
