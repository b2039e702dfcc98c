use Rattle.sedmatch.proofs.Words.{◌∙◌, inl, inr, refl, sym, true≢false}
use Rattle.sedmatch.proofs.OccurrenceLemmas.{first_due, own_ready, shows, still_ready}
use Rattle.sedmatch.proofs.occurrences.next_by.Goals as goal

pub returns-then-not-occurrences-clause-answered : goal.returns-then-not-occurrences-clause-answered
returns-then-not-occurrences-clause-answered c =
    let mid = c.make_ready.new.self in
    let first = c.make_ready.ensures in
    let done = c.next_with.ensures in
    let tables = done.searched.tables in
    let shape = tables.reverse_any_shape in
    shows _ _ _ _ mid _ _ _ _ c.requires.forward_one.table.expr.arena.nonempty c.requires.serves first.ready
    (still_ready c.args.prepared.now c.args.text.now mid _ refl tables.space ((shape.0, shape.1, shape.3, shape.4), inr done.searched.serves.kept.region.table) (λ x u is. inl is) first.ready.room
    (record { own = λ h. absurd (true≢false (sym h ∙ c.if-not-occurrences.true)); shared = λ h. done.searched.serves })) first.same first.owed first.used done.next done.occurs done.cost done.once done.counts

pub returns-clause-answered : goal.returns-clause-answered
returns-clause-answered c =
    let first = c.make_ready.ensures in
    let done = c.next_with-2.ensures in
    let tables = done.searched.tables in
    shows _ _ _ _ c.make_ready.new.self _ _ _ _ c.requires.forward_one.table.expr.arena.nonempty c.requires.serves first.ready
    (own_ready c.args.prepared.now c.args.text.now c.make_ready.new.self _ c.in-Some.reverse c.next_with-2.new.reverse_any _ first.ready.room first.ready.table c.if-not-occurrences.false c.index_mut.ensures.value c.in-Some.is
    tables.reverse_any_shape.0 done.searched.serves tables.space (refl, refl, refl, refl)) first.same first.owed first.used done.next done.occurs done.cost done.once done.counts

pub returns-then-not-occurrences-clause-first : goal.returns-then-not-occurrences-clause-first
returns-then-not-occurrences-clause-first c =
    let done = c.next_with.ensures in
    let begun = c.make_ready.ensures in
    first_due _ _ c.args.last c.args.occurrences.now c.make_ready.new.self _ _ _ _ c.requires.forward_one.table.expr.arena.nonempty c.requires.serves.fresh begun.owed begun.used done.cost done.first

pub returns-clause-first : goal.returns-clause-first
returns-clause-first c =
    let done = c.next_with-2.ensures in
    let begun = c.make_ready.ensures in
    first_due _ _ c.args.last c.args.occurrences.now c.make_ready.new.self _ _ _ _ c.requires.forward_one.table.expr.arena.nonempty c.requires.serves.fresh begun.owed begun.used done.cost done.first
