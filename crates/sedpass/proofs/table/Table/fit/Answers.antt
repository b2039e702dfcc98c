use Rattle.sedpass.proofs.Words.{rules}
use Rattle.sedpass.proofs.TableLemmas.{emptied, same_all}
use Rattle.sedpass.proofs.table.Table.fit.Goals as goal

pub returns-clause-table : goal.returns-clause-table
returns-clause-table c = emptied _ _ _ _ c.nodes-nodes.ensures.expr (c.requires.roomy c.new-self.result c.new-self.ensures.small c.new-self.ensures.tight) c.new-self.ensures c.next_epoch-self.ensures.later (λ byte lt few small h. absurd (search (rules, same_all)))
