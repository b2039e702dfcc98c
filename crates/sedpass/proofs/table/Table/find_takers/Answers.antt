use Rattle.sedpass.proofs.Words.{arith, cases_eq, false, get_or-set_other, inl, inr, column_for, slice_set, takers_row, true, ◌∙◌, sym, rules}
use Rattle.sedpass.proofs.TableLemmas.{bytes_alike, table_notes, takers_alike}
use Rattle.sedpass.proofs.table.Table.find_takers.Goals as goal

pub returns-then-not-self-column-clause-table : goal.returns-then-not-self-column-clause-table
returns-then-not-self-column-clause-table c =
    let t = c.args.self.now in
    let e = c.args.act.prepared.now in
    let column = c.column-column.result in
    let table = c.requires.table in
    let z = c.takers_row-row.result in
    table_notes e t c.mark_takers.new.rows z (slice_set t.has_takers column true) (omega (arith, c.takers_row-row.ensures)) (search rules) table (
    λ byte lt few small h. let other = column_for t.layout byte in elim (cases_eq other column) [
      | inl e' ↦ rw (e', ← c.takers_row-row.ensures) (takers_alike t.way e c.args.byte byte _ (bytes_alike e.nodes t.way.mirrored t.layout table.layout c.args.byte byte c.ranges.byte.fits lt (omega (arith, small, e', c.column-column.ensures.is)) (sym (e' ∙ c.column-column.ensures.is))) (rw c.requires.way at c.mark_takers.ensures.takers))
      | inr ne ↦ rw (c.mark_takers.ensures.keeps.same (takers_row other) (λ n. omega (arith, n, ne, c.takers_row-row.ensures))) (table.takers byte lt few small (rw (get_or-set_other t.has_takers column other true false ne) at h))
    ]
    )
