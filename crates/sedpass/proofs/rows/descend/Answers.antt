use Rattle.sedpass.proofs.Words.{rules, Bool, Option, false, IfSome, RowFollows, RowIs, EndsUpTo, leaves_row, ends_row, marks_of, row_of, None, Some, sym, ◌||◌, ◌&&◌, arith, IsCounted, TakesAtLeast, length, has_mark, nodes_of, null_in, refl, seen-arena, seen-length, slice_set, ℕ, ◌+◌, ◌-◌, ◌<◌, ◌∙◌, ◌≡◌, ◌≢◌}
use Rattle.std.proofs.lemmas.Option.{IfSome_then}
use Rattle.sedpass.proofs.FollowLemmas.{marks_kept, nothing, row_added}
use Rattle.sedpass.proofs.ActLemmas.{down_step, enters_first, leaves_none, leaves_step}
use Rattle.sedpass.proofs.FactLemmas.{inside_seen}
use Rattle.sedpass.proofs.RowLemmas.{bits_here, keeps_then, still_wide}
use Rattle.sedpass.proofs.rows.descend.Goals.{After-loop-x}
use Rattle.sedpass.proofs.rows.descend.Goals as goal

pub loop-x-init : goal.loop-x-init
unfolding TakesAtLeast IsCounted
loop-x-init c =
    let e = c.args.act.prepared.now in
    let mirrored = c.args.act.way.mirrored in
    let arena = seen-arena mirrored e c.nodes-nodes.ensures.expr.arena in
    let leaves = c.leaves_row-leaves.result in
    let ends = c.ends_row-ends.result in
    let new = c.set.new.self in
    let two = keeps_then (λ q. q ≢ ends) (λ q. q ≢ leaves) (λ q. (q ≢ ends) × (q ≢ leaves)) _ _ _ (λ q h. h) c.close.ensures.keeps c.lay.ensures.keeps in
    let is_after : row_of new 0 ≡ slice_set (row_of c.args.rows.now 0) c.args.act.root (c.args.first && c.is_none.result) = rw (← two.same 0 (search rules)) c.set.ensures.marks in
    let long : c.args.act.root < length (row_of c.args.rows.now 0) = omega (arith, c.requires.root, c.requires.wide.2 0 (omega (arith, c.requires.wide.1))) in
    let last : row_of new ends ≡ row_of c.close.new.rows ends = c.set.ensures.keeps.same ends (search rules) ∙ c.lay.ensures.keeps.same ends (search rules) in
    let none = c.last_set-x.ensures.clear in
    let entered = enters_first _ _ _ arena _ _ _ _ _ is_after long _ none c.requires.entered in
    let leaves = leaves_none _ _ _ arena _ _ _ _ _ is_after long _ none c.requires.entered (row_of new leaves) in
    rw last (search (rules, c.close.ensures.others, c.close.ensures.own, c.is_none.ensures, seen-length mirrored e, still_wide, keeps_then))

pub loop-x-preserved : goal.loop-x-preserved
unfolding TakesAtLeast IsCounted
loop-x-preserved c =
    let arena = seen-arena c.args.act.way.mirrored c.args.act.prepared.now c.nodes-nodes.ensures.expr.arena in
    let ends = c.ends_row-ends.result in
    let above : c.loop-x.x ≡ c.loop-x.x - 1 + 1 = omega (arith, c.loop-x-test.true) in
    let old = c.loop-x.invariant in
    let here = old.set (omega (arith, c.loop-x-test.true)) in
    let last : row_of c.enter.new.rows ends ≡ row_of c.loop-x.rows ends = c.enter.ensures.keeps.same ends (search rules) in
    let parts = c.enter.ensures.parts in
    let next = c.last_set-x-in-loop-x.ensures in
    let entered = down_step _ _ arena _ _ _ _ _ parts.1 here _ parts.2 next.clear _ _ _ (rw above at old.entered) in
    let leaves = leaves_step _ c.args.act.root arena _ _ _ _ _ parts.1 here _ parts.2 next.clear _ _ _ next.order.1 c.enter.ensures.leaf (rw above at old.leaves) in
    rw last (search (rules, still_wide, keeps_then))

-- what the scans found, besides the marks of a row
found : (c : After-loop-x) (first : Bool) (took other before before_ended : ℕ → Bool) → RowFollows (nodes_of c.args.act.way c.args.act.prepared.now) c.args.act.root c.args.act.way.mirrored first (null_in c.args.act.prepared.now.nodes c.args.act.kind) other before before_ended →
    EndsUpTo (nodes_of c.args.act.way c.args.act.prepared.now) c.args.act.root took (null_in c.args.act.prepared.now.nodes c.args.act.kind) (row_of c.args.rows.now 1) c.args.act.root →
    ((n : ℕ) → n < length c.args.act.prepared.now.nodes → marks_of c.args.base leaves_row c.args.rows.now n ≡ before n) → ((n : ℕ) → n < length c.args.act.prepared.now.nodes → marks_of c.args.base ends_row c.args.rows.now n ≡ before_ended n) →
    (first || (c.args.first && c.is_none.result)) ≡ c.args.first → RowIs c.args.act c.args.first (λ n. other n || took n) c.loop-x.rows c.args.state
found c first took other before before_ended follows up leaf_same end_same sum =
    let mirrored = c.args.act.way.mirrored in
    let e = c.args.act.prepared.now in
    let long = seen-length mirrored e in
    let old = c.loop-x.invariant in
    let at : c.loop-x.x ≡ c.low-low.result = search rules in
    let there : IfSome c.args.base (λ q. row_of c.close.new.rows (leaves_row q) ≡ row_of c.args.rows.now (leaves_row q)) = IfSome_then c.args.base c.requires.base (λ q low. c.close.ensures.keeps.same (leaves_row q) (search rules)) in
    let laid : (n : ℕ) → n < length (nodes_of c.args.act.way e) → has_mark (row_of c.set.new.self c.leaves_row-leaves.result) n ≡ before n = λ n lt.
    rw (c.set.ensures.keeps.same c.leaves_row-leaves.result (search rules)) (grind (arith, long, c.lay.ensures.laid n, marks_kept c.args.base leaves_row c.args.rows.now c.close.new.rows n there, leaf_same n)) in
    rw (← c.leaves_row-leaves.ensures, ← c.ends_row-ends.ensures, ← long, ← sum)
    (row_added _ _ (seen-arena mirrored e c.nodes-nodes.ensures.expr.arena) (inside_seen mirrored e _ c.requires.root) _ _ _ _ _ _ _ _ follows _ _ _ _ _ _
    (λ n there. ((c.low-low.ensures.range mirrored n).1 there).0) up (rw at at old.entered) (rw at at old.leaves) laid
    (record { others = λ n lt ne. rw (← end_same n (omega (arith, lt, long))) (old.ends.others n lt ne); own = rw (← end_same _ c.requires.root) old.ends.own }))

-- with the row of a state
added : (c : After-loop-x) (base : Option ℕ) → c.args.base ≡ base → IfSome base (λ q. (other took : ℕ → Bool) → RowIs c.args.act c.args.first other c.args.rows.now q →
    EndsUpTo (nodes_of c.args.act.way c.args.act.prepared.now) c.args.act.root took (null_in c.args.act.prepared.now.nodes c.args.act.kind) (row_of c.args.rows.now 1) c.args.act.root →
    RowIs c.args.act c.args.first (λ n. other n || took n) c.loop-x.rows c.args.state)
added c None is = search rules
added c (Some q) is = λ other took row up. found c c.args.first took other _ _ row up (λ n lt. rw is (sym (bits_here _ _ n lt))) (λ n lt. rw is (sym (bits_here _ _ n lt))) (search rules)

pub returns-clause-alone : goal.returns-clause-alone
returns-clause-alone c none took up = found c false took _ _ _ (nothing _ _ _ _) up (λ n lt. rw none refl) (λ n lt. rw none refl) (search (rules, none))

pub returns-clause-added : goal.returns-clause-added
returns-clause-added c = added c c.args.base refl
