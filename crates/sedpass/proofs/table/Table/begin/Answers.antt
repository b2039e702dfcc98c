use Rattle.sedpass.proofs.TableLemmas.{note_beginning}
use Rattle.sedpass.proofs.table.Table.begin.Goals as goal

pub returns-then-epoch-lt-LAST_EPOCHS-clause-codes : goal.returns-then-epoch-lt-LAST_EPOCHS-clause-codes
returns-then-epoch-lt-LAST_EPOCHS-clause-codes c =
    rw c.beginning_at-at.ensures (note_beginning c.args.prepared.now c.args.self.now c.make_first-code.new.self c.args.root c.make_first-code.result c.args.kind c.requires.root c.if-epoch-lt-LAST_EPOCHS.true c.make_first-code.ensures.codes)
