use Rattle.sedscript.proofs.Exclusive.{judged_no_fault}
use Rattle.sedscript.proofs.Places.{faulty_within, holds_anyway}
use Rattle.sedscript.proofs.reader.read.Goals as goal

pub returns-in-Err-clause-within : goal.returns-in-Err-clause-within
returns-in-Err-clause-within c =
    faulty_within c.fault_within.ensures c.args.text.now c.args.kind c.args.max_nodes c.in-Err.fault c.in-Err.ensures.fault

pub returns-clause-no_fault : goal.returns-clause-no_fault
returns-clause-no_fault c = holds_anyway c.script_of.result (λ f bad.
    judged_no_fault c.args.text.now c.args.kind c.args.max_nodes c.judge.new.items c.judge.new.exprs.items c.in-Ok.ensures.judged.to f c.reads_as_one.ensures c.in-Ok.ensures.judged.judged bad)
