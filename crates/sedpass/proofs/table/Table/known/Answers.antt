use Rattle.sedpass.proofs.Words.{arith, common_steps, length, rules, ◌+◌, ◌<◌}
use Rattle.sedpass.proofs.TableLemmas.{cell_there, known_cell}
use Rattle.sedpass.proofs.table.Table.known.Goals.{After-cell}
use Rattle.sedpass.proofs.table.Table.known.Goals as goal

-- the cell is there
there : (c : After-cell) → c.args.offset + c.cell.result < length c.deref.result.now
there c = omega (arith, cell_there c.args.prepared.now c.args.self.now c.requires.table c.args.offset c.args.byte c.args.edge c.requires.offset c.ranges.byte.fits, c.cell.ensures, c.deref.ensures)

pub offset_bounds-deref-cell : goal.offset_bounds-deref-cell
offset_bounds-deref-cell c = search (rules, there (goal.at.offset_bounds-deref-cell c).After-cell)

pub slice_bounds-cells-count : goal.slice_bounds-cells-count
slice_bounds-cells-count c = omega (arith, there c)

pub slice_bounds-cells-start : goal.slice_bounds-cells-start
slice_bounds-cells-start c = search (rules, there c)

pub bounds-cells-offset : goal.bounds-cells-offset
bounds-cells-offset c = search (rules, there (goal.at.bounds-cells-offset c).After-cell)

pub returns-clause-leads : goal.returns-clause-leads
returns-clause-leads c = known_cell _ _ c.requires.table _ c.args.byte c.args.edge c.requires.offset c.ranges.byte.fits _ (grind (arith, common_steps))
