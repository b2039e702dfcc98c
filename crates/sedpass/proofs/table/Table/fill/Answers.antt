use Rattle.sedpass.proofs.Words.{rules, ◌/◌, ◌^◌, length, arith, get_or_default, Codes, IsNext, state_of}
use Rattle.sedpass.proofs.TableLemmas.{cell_there, codes_map, leads_on, note_cell, offset_more}
use Rattle.sedpass.proofs.table.Table.fill.Goals.{After-make-next}
use Rattle.sedpass.proofs.table.Table.fill.Goals as goal

-- the next state is the one that the byte leads to
leads : (c : After-make-next) → Codes c.args.prepared.now c.args.self.now c.make-next.new.self (IsNext c.args.prepared.now c.args.self.now c.args.offset c.args.byte c.args.edge) c.make-next.result
leads c =
    let T = c.args.self.now in
    codes_map _ _ _ _ _ c.make-next.result
    (λ b. leads_on _ (state_of (length c.args.prepared.now.nodes) T (c.args.offset / 2 ^ T.layout.shift)) b c.args.byte c.args.edge (search (rules, get_or_default)) c.edge_kind.ensures) (rw c.state_at-state.ensures at c.make-next.ensures.codes)

pub index_mut-requires : goal.index_mut-requires
index_mut-requires c =
    let codes = c.make-next.ensures.codes in
    omega (arith, cell_there c.args.prepared.now c.make-next.new.self codes.table c.args.offset c.args.byte c.args.edge (offset_more c.args.prepared.now _ _ codes.adds c.if-self-epoch.true _ c.requires.offset) c.ranges.byte.fits, c.cell.ensures, c.make-next.new.self.cells.ok)

pub returns-then-column-self-clause-codes : goal.returns-then-column-self-clause-codes
returns-then-column-self-clause-codes c =
    note_cell c.args.prepared.now c.args.self.now c.make-next.new.self c.args.offset c.make-next.result c.args.byte c.args.edge c.if-self-epoch.true c.requires.offset c.ranges.byte.fits (omega (arith, c.if-column-self.true, c.column-column.ensures.is)) c.cell.result c.cell.ensures
    (leads (goal.at.returns-then-column-self-clause-codes c).After-make-next)

pub returns-else-self-epoch-clause-codes : goal.returns-else-self-epoch-clause-codes
returns-else-self-epoch-clause-codes c = leads (goal.at.returns-else-self-epoch-clause-codes c).After-make-next
