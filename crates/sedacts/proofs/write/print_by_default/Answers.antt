use Rattle.std.proofs.Common.{◌≡◌, ◌∙◌, sym, true, false}
use Rattle.sedacts.proofs.Writing.{writes_none}
use Rattle.sedacts.proofs.write.print_by_default.Goals as goal

pub returns-then-quiet : goal.returns-then-quiet
returns-then-quiet g c =
    let quiet : c.args.script.now.quiet ≡ true = sym c.quiet.ensures ∙ c.if-quiet.true in
    rw quiet writes_none

pub returns : goal.returns
returns g c =
    let loud : c.args.script.now.quiet ≡ false = sym c.quiet.ensures ∙ c.if-quiet.false in
    rw loud (rw c.line.ensures.value at c.write_all.ensures)

pub write_all-requires : goal.write_all-requires
write_all-requires g c = c.requires
