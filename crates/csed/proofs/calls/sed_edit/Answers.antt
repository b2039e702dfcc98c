use Rattle.std.proofs.Common.{arith}
use Rattle.csed.proofs.CallsLemmas.{Beginning-written}
use Rattle.csed.proofs.calls.sed_edit.Goals as goal

pub returns-clause-beginning : goal.returns-clause-beginning
returns-clause-beginning c is =
    rw c.report.ensures
    (Beginning-written _ _ _ _ _ c.edit_by-outcome.result (grind (arith, c.status.ensures, is)) c.edit_by-outcome.ensures.comes)
