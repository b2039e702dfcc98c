use Rattle.sedpass.proofs.table.Table.link.Goals as goal

pub returns-in_err-code-clause-origin : goal.returns-in_err-code-clause-origin
returns-in_err-code-clause-origin c none = rw c.in_ok-self.was (λ flags offset small is knows. c.next_of-2.ensures.none c.in_err-code.was (rw (c.state_at-origin.ensures, c.offset_of.ensures flags offset small is) knows))
