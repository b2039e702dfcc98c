use Rattle.sedpass.proofs.Words.{ap, arith, length, rules, sym, ◌∙◌, ◌≢◌, KeepsRows, row_of, IsApart, bits}
use Rattle.sedpass.proofs.KeptLemmas.{coded, first_at}
use Rattle.sedpass.proofs.RowLemmas.{copied_rows, keeps_then}
use Rattle.sedpass.proofs.TableLemmas.{adds_rows, table_rows}
use Rattle.sedpass.proofs.kept.Kept.edge_state.Goals.{After-copy-2}
use Rattle.sedpass.proofs.kept.Kept.edge_state.Goals as goal

pub returns-then-place-self-clause-there : goal.returns-then-place-self-clause-there
returns-then-place-self-clause-there c = (coded c.offset_of.result c.first-code.ensures.codes c.offset_of.ensures).0

pub returns-then-place-self-clause-at : goal.returns-then-place-self-clause-at
returns-then-place-self-clause-at c =
    first_at _ _ c.args.table.now c.args.self.now _ _ c.kind_of-kind.result _ c.requires.region c.first-code.ensures.codes.adds.shape.0 c.if-place-self.true c.kind_of-kind.ensures.begin (rw c.len.ensures.is at c.kind_of-kind.ensures.end)
    (coded c.offset_of.result c.first-code.ensures.codes c.offset_of.ensures).1

-- only the row that is made has changed
keeps : (c : After-copy-2) → KeepsRows (IsApart 2 c.args.table.now.count) c.args.table.now.rows c.copy-2.new.self
keeps c = keeps_then (λ q. q ≢ c.leaves_row-leaves.result) (λ q. q ≢ c.ends_row-ends.result) (IsApart 2 c.args.table.now.count) _ _ _ (search rules) c.copy.ensures.keeps c.copy-2.ensures.keeps

pub intern-code-requires-clause-table : goal.intern-code-requires-clause-table
intern-code-requires-clause-table c = table_rows c.args.subject.prepared.now c.args.table.now c.copy-2.new.self (keeps (goal.at.intern-code-requires-clause-table c).After-copy-2) c.requires.region.table (c.requires.room (omega (arith, c.requires.place, c.if-place-self.false)))

pub returns-clause-adds : goal.returns-clause-adds
returns-clause-adds c = adds_rows c.args.subject.prepared.now c.args.table.now c.copy-2.new.self (keeps (goal.at.returns-clause-adds c).After-copy-2) c.intern-code.new.self c.intern-code.ensures.codes.adds

pub returns-clause-there : goal.returns-clause-there
returns-clause-there c = (coded c.offset_of-2.result c.intern-code.ensures.codes c.offset_of-2.ensures).0

pub returns-clause-at : goal.returns-clause-at
returns-clause-at c =
    let m = length c.args.subject.prepared.now.nodes in
    let leaves = c.leaves_row-leaves.ensures in
    let ends = c.ends_row-ends.ensures in
    let copied = copied_rows m c.nodes-nodes.result _ _ c.copy.new.self c.copy-2.new.self _ _ c.nodes-nodes.ensures.value (λ e. omega (arith, e, leaves, ends)) c.copy.ensures.same c.copy-2.ensures.keeps c.copy-2.ensures.same in
    let edge = c.requires.edge (omega (arith, c.requires.place, c.if-place-self.false)) in
    let has = (coded c.offset_of-2.result c.intern-code.ensures.codes c.offset_of-2.ensures).1 in
    (has.0, rw (c.intern-code.ensures.codes.adds.shape.0, edge.0, has.1 ∙ ap (λ q. bits m (row_of c.copy-2.new.self q)) (sym leaves) ∙ copied.0, has.2 ∙ ap (λ q. bits m (row_of c.copy-2.new.self q)) (sym ends) ∙ copied.1) edge.1)
