use Rattle.std.proofs.lemmas.Option.{IfSome_then}
use Rattle.sedpass.proofs.Words.{Takes, rules, ◌*◌, ends_row, Codes, IfSome, IsMade, IsTrue, None, Option, RowIs, Some, TookBy, arith, bits, false, has_mark, is_some, leaves_row, length, nodes_of, refl, root_of, row_of, seen-arena, seen-length, slice_get_within, sym, true≢false, ℕ, ◌∙◌, ◌≡◌}
use Rattle.sedpass.proofs.FollowLemmas.{took_same}
use Rattle.sedpass.proofs.RowLemmas.{InTree-inside, bits_here}
use Rattle.sedpass.proofs.TableLemmas.{adds_none, adds_rows, base_made, keeps_made, keeps_states, named_state, names_map, names_offset, table_rows, with_link}
use Rattle.sedpass.proofs.table.Table.make.Goals.{After-intern-code, After-take}
use Rattle.sedpass.proofs.table.Table.make.Goals as goal

pub is_alone-alone-requires : goal.is_alone-alone-requires
is_alone-alone-requires c = record { table = table_rows _ _ _ (keeps_states 1 _ _ _ (omega arith) c.take.ensures.keeps) c.find_takers-takers.ensures.table (omega arith) }

pub base-base-requires-clause-table : goal.base-base-requires-clause-table
base-base-requires-clause-table c = table_rows _ _ _ (keeps_states 1 _ _ _ (omega arith) c.take.ensures.keeps) c.find_takers-takers.ensures.table (omega arith)

pub base-base-requires-clause-takers : goal.base-base-requires-clause-takers
base-base-requires-clause-takers c = IfSome_then c.find_takers-takers.result c.find_takers-takers.ensures.takers (λ q is. search (rules, c.take.ensures.keeps.same, is))

pub ascend-requires-clause-leaves : goal.ascend-requires-clause-leaves
ascend-requires-clause-leaves c n lt h = c.take.ensures.leaves n lt (c.base-base.ensures.less n (omega (arith, lt, seen-length c.args.act.way.mirrored c.args.act.prepared.now)) h)

pub descend-requires-clause-base : goal.descend-requires-clause-base
descend-requires-clause-base c = IfSome_then c.named-base.result (named_state _ _ c.base-base.ensures.table _ _ _ c.base-base.ensures.base c.named-base.ensures.some c.named-base.ensures.named) (λ q is. is.0)

pub intern-code-requires-clause-table : goal.intern-code-requires-clause-table
intern-code-requires-clause-table c = table_rows _ _ _ (keeps_made _ _ _ _ c.ascend.ensures.keeps c.descend.ensures.keeps) c.base-base.ensures.table (omega arith)

-- the row that is made follows from the leaves that took the byte
row : (c : After-intern-code) (base : Option ℕ) → c.named-base.result ≡ base → RowIs c.args.act c.args.act.way.all_starts (has_mark (row_of c.take.new.rows 1)) c.descend.new.rows c.base-base.new.self.count
row c None is = c.descend.ensures.alone is (has_mark (row_of c.take.new.rows 1)) (rw (c.base-base.ensures.none (c.named-base.ensures.none is)) at c.ascend.ensures.ended)
row c (Some q) is =
    let B = c.base-base.new.self in
    let base = (rw is at (named_state c.args.act.prepared.now B c.base-base.ensures.table _ _ _ c.base-base.ensures.base c.named-base.ensures.some c.named-base.ensures.named)).1 in
    let kept = c.ascend.ensures.keeps.same in
    took_same _ _ _ _ _ _ _ _ _ base.others ((rw is at c.descend.ensures.added) base.own_leaves (has_mark (row_of B.rows 1)) (rw (kept (leaves_row q) (omega arith), kept (ends_row q) (omega arith)) base.own_row) c.ascend.ensures.ended)

-- the row of the state before is there still, and shows what took the byte
took : (c : After-take) → TookBy (nodes_of c.args.act.way c.args.act.prepared.now) c.args.act.root (bits (length c.args.act.prepared.now.nodes) (row_of c.args.self.now.rows (leaves_row c.args.from))) (Some c.args.byte) (has_mark (row_of c.take.new.rows 1))
took c n node there is =
    let kept = rw c.make_room.ensures.rows at (c.find_takers-takers.ensures.others.same (leaves_row c.args.from) (omega (arith, c.requires.from, c.make_room.ensures.shape.1))) in
    rw (bits_here (length c.args.act.prepared.now.nodes) (row_of c.args.self.now.rows (leaves_row c.args.from)) n (omega (arith, slice_get_within _ n node is, seen-length)), ← kept) (c.take.ensures.took n node there is)

-- the state's row is that one
codes : (c : After-intern-code) →
    TookBy (nodes_of c.args.act.way c.args.act.prepared.now) c.args.act.root (bits (length c.args.act.prepared.now.nodes) (row_of c.args.self.now.rows (leaves_row c.args.from))) (Some c.args.byte) (has_mark (row_of c.take.new.rows 1)) →
    Codes c.args.act.prepared.now c.args.self.now c.intern-code.new.self (IsMade c.args.act c.args.byte (bits (length c.args.act.prepared.now.nodes) (row_of c.args.self.now.rows (leaves_row c.args.from)))) c.intern-code.result
codes c shows =
    let e = c.args.act.prepared.now in
    let u = c.intern-code.new.self in
    let codes = c.intern-code.ensures.codes in
    let adds = c.base-base.ensures.same u (adds_rows e c.base-base.new.self c.descend.new.rows (keeps_made _ _ _ _ c.ascend.ensures.keeps c.descend.ensures.keeps) u codes.adds) in
    record {
      table = codes.table;
      adds = c.make_room.ensures.adds u (c.find_takers-takers.ensures.same u (adds_rows e c.find_takers-takers.new.self c.take.new.rows (keeps_states 1 _ _ _ (omega arith) c.take.ensures.keeps) u adds));
      names = names_map _ _ _ _ _ (λ a has. record { root = has.0; comes_next = (has_mark (row_of c.take.new.rows 1), shows, rw (has.1, has.2) (row c _ refl)) }) codes.names;
    }

-- the root is the expression's where there is a row of takers
whole : (takers : Option ℕ) (P : ℕ → Type 0) (Q : Type 0) → IsTrue (is_some takers) → IfSome takers P → ((q : ℕ) → P q → Q) → Q
whole None P Q some is up = absurd (true≢false (sym some))
whole (Some q) P Q some is up = up q is

pub index_mut-requires : goal.index_mut-requires
index_mut-requires c = omega (arith, (names_offset _ _ c.intern-code.ensures.codes.table _ _ c.offset_of.result c.intern-code.ensures.codes.names c.offset_of.ensures).0, c.state_at-state.ensures, c.intern-code.ensures.codes.table.room)

pub returns-in-Some-clause-codes : goal.returns-in-Some-clause-codes
returns-in-Some-clause-codes c =
    let B = c.base-base.new.self in
    let shared = rw c.in-Some.is at c.shared.ensures.shared in
    let arena = seen-arena c.args.act.way.mirrored c.args.act.prepared.now c.base-base.ensures.table.expr.arena in
    record {
      table = c.base-base.ensures.table;
      adds = c.make_room.ensures.adds B (c.find_takers-takers.ensures.same B (adds_rows c.args.act.prepared.now _ _ (keeps_states 1 _ _ _ (omega arith) c.take.ensures.keeps) B (c.base-base.ensures.same B (adds_none _ B))));
      names = names_map _ _ _ _ _ (λ a. base_made _ _ _ _ _ a arena c.requires.root shared.1 (took (goal.at.returns-in-Some-clause-codes c).After-take)) (rw shared.0 at c.base-base.ensures.base);
    }

pub returns-then-alone-clause-codes : goal.returns-then-alone-clause-codes
returns-then-alone-clause-codes c =
    let at = goal.at.returns-then-alone-clause-codes c in
    let act = c.args.act in
    let e = act.prepared.now in
    let u = c.intern-code.new.self in
    let alone = c.is_alone-alone.ensures.alone.0 c.if-alone.true in
    let root : act.root ≡ root_of e = whole c.find_takers-takers.result _ _ alone.0 c.find_takers-takers.ensures.takers (λ q is. is.2) in
    let way : u.way ≡ act.way = c.intern-code.ensures.codes.adds.shape.0 ∙ c.base-base.ensures.shape.0 ∙ c.find_takers-takers.ensures.shape.0 ∙ c.make_room.ensures.shape.0 ∙ sym c.requires.way in
    let none = took_same _ _ _ _ _ _ (λ n. false) _ _ (λ n inside. sym (alone.2 n (omega (arith, InTree-inside _ (seen-arena act.way.mirrored e c.intern-code.ensures.codes.table.expr.arena) _ n inside, c.requires.root)))) (row at.After-intern-code _ refl) in
    with_link e c.args.self.now u _ c.intern-code.result c.state_at-state.result c.unwrap_or.result (Some c.intern-code.result) (names_map _ _ _ _ _ (λ a has. (has.0 ∙ root, rw (way, has.1, has.2, ← root, ← alone.1) none)) c.intern-code.ensures.codes.names)
    (codes at.After-intern-code (took at.After-take))

-- what it costs, with a row of takers or without one
cost : (c : After-intern-code) (takers : Option ℕ) → c.find_takers-takers.result ≡ takers → Takes c.args.steps.now c.intern-code.new.steps (32 * length c.args.act.prepared.now.nodes)
cost c None is = omega (arith, c.find_takers-takers.ensures.none is, c.is_alone-alone.ensures.few is, (c.base-base.ensures.few is).0, c.shared.ensures.few (c.base-base.ensures.few is).1)
cost c (Some q) is = omega (arith, rw is at c.take.ensures.fewer, (rw is at c.find_takers-takers.ensures.takers).4)

pub returns-then-alone-clause-cost : goal.returns-then-alone-clause-cost
returns-then-alone-clause-cost c = cost (goal.at.returns-then-alone-clause-cost c).After-intern-code c.find_takers-takers.result refl

pub returns-else-alone-clause-codes : goal.returns-else-alone-clause-codes
returns-else-alone-clause-codes c =
    let at = goal.at.returns-else-alone-clause-codes c in
    with_link c.args.act.prepared.now c.args.self.now c.intern-code.new.self _ c.intern-code.result _ _ _ c.intern-code.ensures.codes.table.origin (codes at.After-intern-code (took at.After-take))

pub returns-else-alone-clause-cost : goal.returns-else-alone-clause-cost
returns-else-alone-clause-cost c = cost (goal.at.returns-else-alone-clause-cost c).After-intern-code c.find_takers-takers.result refl
