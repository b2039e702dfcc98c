use Rattle.sedpass.proofs.Words.{IsApart, KeepsRows, rules}
use Rattle.sedpass.proofs.TableLemmas.{table_rows}
use Rattle.sedpass.proofs.table.Table.take_off.Goals as goal

pub returns-then-meets-clause-table : goal.returns-then-meets-clause-table
returns-then-meets-clause-table c =
    let keeps : KeepsRows (IsApart 2 c.args.self.now.count) c.args.self.now.rows c.blend-2.new.self = search rules in
    table_rows c.args.prepared.now c.args.self.now c.blend-2.new.self keeps c.requires.table c.requires.room

pub returns-clause-table : goal.returns-clause-table
returns-clause-table c =
    let keeps : KeepsRows (IsApart 2 c.args.self.now.count) c.args.self.now.rows c.blend-3.new.self = search rules in
    table_rows c.args.prepared.now c.args.self.now c.blend-3.new.self keeps c.requires.table c.requires.room
