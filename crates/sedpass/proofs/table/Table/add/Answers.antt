use Rattle.sedpass.proofs.Words.{◌+◌, ◌*◌, ◌^◌, ◌≤◌, cells_in, length, refl, inl, inr, arith, rules, cases_eq, shl_whole, length-set}
use Rattle.sedpass.proofs.TableLemmas.{shifted, cell_inside, table_more}
use Rattle.sedpass.proofs.table.Table.add.Goals as goal

pub returns-clause-table : goal.returns-clause-table
returns-clause-table c =
    let T = c.args.self.now in
    let t = c.requires.table in
    let size = 2 ^ T.layout.shift in
    let place = shifted T.count T.room T.layout.shift c.requires.room t.room.rows.few t.layout.small in
    let long : (T.count + 1) * size ≤ length c.empty_cells.new.cells.items = omega (arith, place, c.empty_cells.ensures.long, shl_whole 1 16 T.layout.shift 64 (omega arith) (omega arith)) in
    table_more c.args.prepared.now T _ (search rules) refl t (search (rules, length-set)) (λ q low. elim (cases_eq q T.count) [ inl e ↦ inr (search rules) | inr ne ↦ inl (omega (arith, ne)) ])
    (λ q k there low some. elim (cases_eq q T.count) [
      | inl e ↦ absurd (omega (arith, rw (e, ← place) at some, c.empty_cells.ensures.clear k (omega (arith, low, c.cells-width.ensures))))
      | inr ne ↦ inl (omega (arith, ne), c.empty_cells.ensures.before (q * size + k) (omega (arith, cell_inside size q k T.count (cells_in T.layout) (T.count * size) (omega (arith, ne)) low t.layout.fits (omega arith), place)))
    ]) (λ root kind. inl refl) t.takers (inl refl)
