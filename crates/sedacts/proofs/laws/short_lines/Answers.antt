use Rattle.sedacts.proofs.ListingLines.{short_lines}
use Rattle.sedacts.proofs.laws.short_lines.Goals as goal

pub returns : goal.returns
returns c = short_lines
