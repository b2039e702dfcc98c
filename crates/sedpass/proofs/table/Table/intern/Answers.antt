use Rattle.sedpass.proofs.Words.{arith, get_or_default, sym, ◌∙◌}
use Rattle.sedpass.proofs.RowLemmas.{bits_agree}
use Rattle.sedpass.proofs.TableLemmas.{adds_none, codes_new}
use Rattle.sedpass.proofs.table.Table.intern.Goals as goal

-- the state that is found has the row
pub returns-in-loop-slot-clause-codes : goal.returns-in-loop-slot-clause-codes
returns-in-loop-slot-clause-codes c =
    let t = c.args.self.now in
    let q = c.in-Some.state in
    let there = (rw c.in-Some.is at c.noted.ensures.notes).0 in
    codes_new c.args.prepared.now t t q c.args.root _ _ c.requires.table (adds_none _ t) there c.requires.root (rw (← c.ends_row-ends.ensures) c.get.ensures.mark) (rw (← c.leaves_row-leaves.ensures, ← c.nodes-nodes.ensures.value) c.is_clear.ensures.clear) (
      sym (c.index.ensures ∙ get_or_default t.roots.items q c.index.result.now 0 (omega (arith, there, c.requires.table.room.count, c.requires.table.room.rows.roots))) ∙ c.if-index-root.true,
      rw (← c.nodes-nodes.ensures.value, ← c.leaves_row.ensures, ← c.leaves_row-leaves.ensures) (bits_agree _ _ _ (c.same.ensures.same c.if-same.true)),
      rw (← c.nodes-nodes.ensures.value, ← c.ends_row.ensures, ← c.ends_row-ends.ensures) (bits_agree _ _ _ (c.same-in-loop-slot.ensures.same c.if-same-2.true)),
    ) c.code_of.ensures

pub returns-clause-codes : goal.returns-clause-codes
returns-clause-codes c =
    let add = c.add-state.ensures in
    codes_new c.args.prepared.now c.args.self.now _ c.add-state.result c.args.root _ _ add.table add.adds add.noted.0 c.requires.root (rw (← c.ends_row-ends.ensures) c.get.ensures.mark)
    (rw (← c.leaves_row-leaves.ensures, ← c.nodes-nodes.ensures.value) c.is_clear.ensures.clear) add.has c.code_of-2.ensures
