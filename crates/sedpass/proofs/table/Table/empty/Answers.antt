use Rattle.sedpass.proofs.TableLemmas.{emptied}
use Rattle.sedpass.proofs.table.Table.empty.Goals as goal

pub returns-clause-table : goal.returns-clause-table
returns-clause-table c = emptied _ _ _ _ c.requires.table.expr c.requires.table.room c.requires.table.layout c.next_epoch-self.ensures.later c.requires.table.takers
