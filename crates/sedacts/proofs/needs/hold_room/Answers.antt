use Rattle.std.proofs.Common.{◌∙◌, sym, arith}
use Rattle.sedacts.proofs.Filling.{holds_within, none_holds}
use Rattle.sedacts.proofs.needs.hold_room.Goals as goal

pub loop-k-preserved : goal.loop-k-preserved
loop-k-preserved c =
    none_holds c.args.script.now.commands c.loop-k.k c.command.result.now c.command.ensures.is
    (sym c.is_holding.ensures ∙ c.if-is_holding.false) c.loop-k.invariant

pub returns : goal.returns
returns c = λ fills.
    let (i, h) = fills in
    let inside = holds_within c.args.script.now.commands i h in
    let count = c.len-k-end.ensures in
    absurd (c.loop-k.invariant i (omega arith) h)
