use Rattle.sedscript.proofs.Pieces.{parts_within}
use Rattle.sedscript.specs.Answers.{pieces_with}
use Rattle.sedscript.proofs.replacement.parts_of.Goals as goal

pub returns-clause-within : goal.returns-clause-within
returns-clause-within c =
    parts_within c.args.delimiter c.bytes.k c.bytes.escaped c.args.bytes.now (pieces_with c.bytes.parts.items c.bytes.run.items) _ c.bytes-test.false c.bytes.invariant.1 c.in_ok-end_run.ensures
