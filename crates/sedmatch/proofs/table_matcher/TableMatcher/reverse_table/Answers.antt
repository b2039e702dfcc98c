use Rattle.sedmatch.proofs.Words.{◌∙◌, rules}
use Rattle.sedmatch.proofs.table_matcher.TableMatcher.reverse_table.Goals as goal

pub returns : goal.returns
returns c =
    rw (← c.self.view_is) (c.fit.ensures.room.0 ∙ c.in_ok-table.ensures.table.1, search rules)
