use Rattle.std.proofs.Common.{◌≡◌, Some, position}
use Rattle.sedspace.specs.Lines.{is_newline}
use Rattle.sedspace.proofs.LineLemmas.{line_through}
use Rattle.sedspace.proofs.space.Space.first_line.Goals as goal

pub returns-in-Some-clause-value : goal.returns-in-Some-clause-value
returns-in-Some-clause-value c =
    let bytes = c.args.self.now.bytes in
    let found : Some c.in-Some.at ≡ position is_newline bytes = c.in-Some.ensures in
    rw c.line.ensures.value (line_through bytes c.in-Some.at found)
