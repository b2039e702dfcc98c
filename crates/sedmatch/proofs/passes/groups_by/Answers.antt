use Rattle.sedmatch.proofs.Words.{◌≡◌, ◌+◌, ◌-◌, ◌/◌, length, arith, has_desk}
use Rattle.sedmatch.proofs.passes.groups_by.Goals as goal

pub groups_with-requires-clause-desk : goal.groups_with-requires-clause-desk
groups_with-requires-clause-desk c =
    let d = c.args.desk.now in
    let is = c.requires.desk.0.space in
    let half : length d.room.kept.edges / 2 ≡ d.max_text / (d.shared.reverse_one.room - 1) + 1 = omega (arith, is.edges) in
    has_desk _ c.in-Some.own d.room d.max_text _ d.max_nodes (rw (c.in-Some.is, ← c.of.ensures.is) at c.requires.passes.1) is c.requires.desk.1 (rw (c.len.ensures.is, half) at (c.has_blocks.ensures c.if-has_blocks.true)) (rw (← c.of.ensures.is) at c.requires.desk.2)
