use Rattle.std.proofs.lemmas.Option.{IfSome_then}
use Rattle.sedpass.proofs.Words.{false, length, refl, seen-arena, state_of, sym, ◌∙◌}
use Rattle.sedpass.proofs.TableLemmas.{adds_none, base_next, names_map, names_more}
use Rattle.sedpass.proofs.table.Table.base.Goals as goal

pub returns-else-act-clause-base : goal.returns-else-act-clause-base
returns-else-act-clause-base c =
    let takers = rw c.in_ok-takers.was at c.requires.takers in
    let kind = rw c.if-act.false at c.requires.kind in
    IfSome_then c.args.self.now.origin c.requires.table.origin (λ v names. names_map _ _ _ _ v (λ a is. record { root = is.0 ∙ sym takers.2; own_leaves = λ n. false; own_row = rw (takers.2, kind, c.requires.way) is.1; others = λ n there. refl }) names)

pub returns-then-take_off-clause-base : goal.returns-then-take_off-clause-base
returns-then-take_off-clause-base c =
    let takers = rw c.in_ok-takers.was at c.requires.takers in
    let link = rw c.in-Some.is at c.link.ensures.leads in
    let adds = c.take_off.ensures.same c.take_off.new.self (adds_none _ _) in
    names_map _ _ _ _ c.in-Some.code (λ b leads. base_next c.args.act c.args.byte _ _ _ _ _ (state_of (length c.args.act.prepared.now.nodes) c.args.self.now c.in-Some.link) b link.1 c.requires.kind c.requires.root
    (seen-arena c.args.act.way.mirrored c.args.act.prepared.now c.requires.table.expr.arena) refl takers.3 (c.take_off.ensures.others c.if-take_off.true) (rw c.requires.way leads))
    (names_more c.args.act.prepared.now c.args.self.now c.take_off.new.self adds (adds.full c.requires.room) _ _ link.2)
