use Rattle.sedpass.proofs.Words.{arith, get_or_default, refl, ◌<◌}
use Rattle.sedpass.proofs.TableLemmas.{state_offset}
use Rattle.sedpass.proofs.table.Table.next_of.Goals as goal

pub known-code-requires-clause-offset : goal.known-code-requires-clause-offset
known-code-requires-clause-offset c =
    let at = state_offset _ _ c.args.state c.requires.table (omega (arith, c.if-state-self.false)) in
    rw (at.0, at.1) (omega (arith, c.if-state-self.false), refl)

pub returns-then-code-eq0-clause-none : goal.returns-then-code-eq0-clause-none
returns-then-code-eq0-clause-none c same knows =
    let at = state_offset _ _ _ c.requires.table knows.0 in
    omega (arith, knows.2, rw (at.0, at.1) at c.known-code.ensures.is, c.if-code-eq0.true)

pub returns-else-code-eq0-clause-leads : goal.returns-else-code-eq0-clause-leads
returns-else-code-eq0-clause-leads c =
    let lt : c.args.state < c.args.self.now.count = omega (arith, c.if-state-self.false) in
    let at = state_offset _ _ _ c.requires.table lt in
    (lt, grind (arith, get_or_default, c.index.ensures, c.if-index-act.false, lt, c.requires.table.room.count, c.requires.table.room.rows.roots), rw (at.0, at.1) at (c.known-code.ensures.leads (omega (arith, c.if-code-eq0.false))))
