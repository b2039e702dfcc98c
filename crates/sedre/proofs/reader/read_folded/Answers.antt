use Rattle.std.proofs.Common.{true, false}
use Rattle.sedre.proofs.Ended.{if_err, ok_of}
use Rattle.sedre.proofs.Folding.{faulty_alike, fault_alike}
use Rattle.sedre.proofs.reader.read_folded.Goals as goal

pub returns-clause-no_fault : goal.returns-clause-no_fault
returns-clause-no_fault c = ok_of c.read_with.result c.read_with.ensures.no_fault (λ h place reason f. h place reason (faulty_alike c.args.kind false true c.args.delimiter c.args.text.now f))

pub returns-clause-fault : goal.returns-clause-fault
returns-clause-fault c = if_err _ _ c.read_with.result (λ f h. fault_alike c.args.kind true false c.args.delimiter c.args.text.now f h) c.read_with.ensures.fault
