use Rattle.std.proofs.Common.{rules, []}
use Rattle.scripts.proofs.WholeEdit.{no_files, whole_edit}
use Rattle.scripts.proofs.reversing.reversed.Goals as goal

pub edit-requires-clause-sinks : goal.edit-requires-clause-sinks
edit-requires-clause-sinks c = no_files c.one_meaning.ensures c.in_ok-program.program c.in_ok-program.ensures

pub returns : goal.returns
returns c =
    let ran = c.in_ok-end.ensures in
    whole_edit c.one_meaning.ensures c.in_ok-limits.limits c.in_ok-program.program c.args.input.now c.in_ok-output.output.bytes.items c.edit.new.outputs.bytes.items c.in_ok-output.output.failed c.edit.new.outputs.failed c.in_ok-end.end _ _
    c.in_ok-program.ensures c.in_ok-limits.ensures c.requires c.in_ok-output.ensures c.edit.new.outputs.full ran.input ran.failed
    (ran.ending c.args.input.now (search rules) (λ k. []) (search rules))
