use Rattle.sedtext.proofs.Words.{◌<◌, ◌∙◌, arith}
use Rattle.sedtext.proofs.WordLemmas.{row_blended, row_more, row_there, row_written, unwritten}
use Rattle.sedtext.proofs.counted.rows.Rows.blend.Goals as goal

pub returns-clause-keeps : goal.returns-clause-keeps
returns-clause-keeps c =
    row_written c.self.inside _ c.self.view_is c.self.invariant _ _ _ c.args.row _ c.reach.ensures.same (omega (arith, row_there c.self.inside _ c.self.view_is c.self.invariant c.args.row c.requires.row)) c.loop-x.invariant.0

pub returns-clause-marks : goal.returns-clause-marks
returns-clause-marks c =
    row_blended c.self.inside _ c.self.view_is c.self.invariant c.args.how _ _ _ _ _ _ _ c.reach.ensures.same c.requires.row c.requires.one c.requires.other c.requires.inside (omega arith) c.loop-x.invariant.0

pub loop-x-preserved : goal.loop-x-preserved
loop-x-preserved c =
    let old = c.loop-x.invariant.0 in
    let less : c.loop-x.x < c.self.inside.width = omega (arith, row_there c.self.inside _ c.self.view_is c.self.invariant c.args.row c.requires.row) in
    let one = c.read.ensures ∙ unwritten _ _ _ c.loop-x.x _ c.args.row c.args.one old less in
    let other = c.read-in-loop-x.ensures ∙ unwritten _ _ _ c.loop-x.x _ c.args.row c.args.other old less in
    rw c.set.ensures.all (row_more c.self.inside _ c.self.view_is c.self.invariant _ _ _ _ _ _ _ c.reach.ensures.same c.requires.row c.requires.inside (omega arith) (rw (← one, ← other) c.word-word.ensures) old, c.set.ensures.there ∙ c.loop-x.invariant.1)
