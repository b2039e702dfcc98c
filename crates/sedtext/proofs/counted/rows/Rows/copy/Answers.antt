use Rattle.sedtext.proofs.Words.{◌∙◌, arith}
use Rattle.sedtext.proofs.WordLemmas.{row_more, row_there, row_written}
use Rattle.sedtext.proofs.counted.rows.Rows.copy.Goals as goal

pub returns-clause-keeps : goal.returns-clause-keeps
returns-clause-keeps c =
    row_written c.self.inside _ c.self.view_is c.self.invariant _ _ _ c.args.row _ c.reach.ensures.same (omega (arith, row_there c.self.inside _ c.self.view_is c.self.invariant c.args.row c.requires.row)) c.loop-x.invariant.0

pub loop-x-preserved : goal.loop-x-preserved
loop-x-preserved c =
    rw c.set.ensures.all (row_more c.self.inside _ c.self.view_is c.self.invariant _ _ _ _ _ _ _ c.reach.ensures.same c.requires.row c.requires.inside (omega arith) c.get.ensures c.loop-x.invariant.0, c.set.ensures.there ∙ c.loop-x.invariant.1)
