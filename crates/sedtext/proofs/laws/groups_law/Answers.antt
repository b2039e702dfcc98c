use Rattle.sedtext.proofs.MatchingLemmas.{report-iff}
use Rattle.sedtext.proofs.laws.groups_law.Goals as goal

pub returns-clause-report : goal.returns-clause-report
returns-clause-report c = report-iff
