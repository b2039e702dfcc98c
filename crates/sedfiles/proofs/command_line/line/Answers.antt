use Rattle.sedfiles.proofs.CommandLineLemmas.{refusal_of}
use Rattle.sedfiles.proofs.command_line.line.Goals as goal

pub returns-in-Err-clause-refused : goal.returns-in-Err-clause-refused
returns-in-Err-clause-refused g c = refusal_of _ c.in-Err.error c.from.result c.in-Err.ensures.kinds c.from.ensures.0 c.from.ensures.1
