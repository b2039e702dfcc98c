-- What is kept of a pass backwards, and how it comes down by a place.
use Rattle.sedpass.proofs.Words.{IsExpr, inl, inr, ◌≡◌, ◌≢◌, ℕ, ◌+◌, ◌-◌, ◌*◌, ◌/◌, ◌^◌, ◌<◌, ◌≤◌, ◌↔◌, Bool, true, false, List, length, Some, sym, ◌∙◌, subst, arith, IsTrue, not, reverse, slice_get, slice_index_or, slice_set, rules, with_item, StateFlags, div-mul-le_self, lt-div-mul-add, beq, length-reverse, get_or_default, get_or-set_same, get_or-set_other, Starts, one_start, get-reverse, KeepsRows, row_of, Kept, cases_lt, WrittenExpression, Way, Table, PlaceKind, ReachesEnd, MeetsAt, leaves_row, ends_row, bits, nodes_of, starts_shown, ends_shown, ComesDown, RowKept, KeptAt, IsLive, IsRegion, PassesDownTo, IsEdge, SameKept, SameSpace, EdgesFrom, IsKept, KeepsRegion, Follows, code_of, Codes, IsNext, PassState, state_of, LeadsOn, BeginsIn, IsTable, SameShape, IsOffset, length-set, mul-le-mul_right}
use Rattle.sedpass.proofs.TableLemmas.{leads_place, names_offset, names_state}
use Rattle.sedpass.proofs.RowLemmas.{behind_reaches, meet_rows, bits_here}
use Rattle.sedpass.proofs.MeetingLemmas.{set_early}
use Rattle.sedpass.proofs.LeaveLemmas.{Opposite}

-- the starts of the mirrored pass are the places where its matches end
pub shown_opposite : (all_starts : Bool) (n end : ℕ) → end ≤ n → Opposite n (starts_shown all_starts n end) (ends_shown all_starts end)
shown_opposite all_starts n end within i d sum = grind arith

-- A state of a table and of what became of it.

-- the state of the next place
pub kept_down : (p : WrittenExpression) (w : List ℕ) (way : Way) (root end q byte : ℕ) (edge : Bool) (a b : PassState) → IsExpr p.nodes p.groups → root < length p.nodes → IsTrue way.mirrored → q < end → end ≤ length w → slice_get w q ≡ Some byte → (IsTrue edge ↔ (q ≡ 0)) →
    LeadsOn p way a byte edge b → KeptAt p w way.all_starts root end (q + 1) a → KeptAt p w way.all_starts root end q b
kept_down p w way root end q byte edge a b expr inside mirrored before within got last leads at =
    let d = length w - (q + 1) in
    let next : d + 1 ≡ length w - q = omega arith in
    let read = get-reverse w q d byte (omega arith) got in
    let row = leads_place p way (reverse w) (starts_shown way.all_starts (length w) end) d byte edge a b expr (rw at.0 inside) read (search (rules, length-reverse w)) (grind arith) (rw (mirrored, at.0) at.1) leads in
    (leads.0 ∙ at.0, rw (mirrored, leads.0, at.0, next) at row)

-- Going back by one byte.

-- the region is as it was
pub region_kept : (p : WrittenExpression) (w : List ℕ) (t after : Table) (k other : Kept) → SameShape t after → IsTable p after → SameKept k other → length other.states.items ≡ length k.states.items → other.region.to ≤ k.region.end →
    IsRegion p w t k → IsRegion p w after other
region_kept p w t after k other shape table same long within region = search rules

-- The rows at the ends of blocks.

-- the block's edge is kept, and those of later blocks are as they were
pub edges_more : (p : WrittenExpression) (w : List ℕ) (all_starts : Bool) (root end width block : ℕ) (old new : List (List Bool)) (leaf last : List Bool) → 1 ≤ width → KeepsRows (λ q. (q ≢ 2 * block) × (q ≢ 2 * block + 1)) old new →
    (bits (length p.nodes) (row_of new (2 * block)) ≡ bits (length p.nodes) leaf) × (bits (length p.nodes) (row_of new (2 * block + 1)) ≡ bits (length p.nodes) last) →
    RowKept p w all_starts root end (block * width + width) (bits (length p.nodes) leaf) (bits (length p.nodes) last) →
    ((b : ℕ) → block * width + width < b * width + width → b * width + width < end → IsEdge p w all_starts root end old width b) →
    (b : ℕ) → block * width < b * width + width → b * width + width < end → IsEdge p w all_starts root end new width b
edges_more p w all_starts root end width block old new leaf last some keeps copied here later b after before =
    elim (cases_lt block b) [
      | inl lt ↦ rw (keeps.same (2 * b) (λ e. omega arith, λ e. omega arith), keeps.same (2 * b + 1) (λ e. omega arith, λ e. omega arith)) (later b (omega (arith, mul-le-mul_right width lt, some)) before)
      | inr ge ↦ let e : b ≡ block = elim (cases_lt b block) [ inl lt ↦ absurd (omega (arith, mul-le-mul_right width lt, after)) | inr le ↦ omega arith ] in rw (e, copied.0, copied.1) here
    ]

-- the room, over two calls
pub space_same : (k : Kept) → SameSpace k k
space_same k = search rules

pub space_then : (a b c : Kept) → SameSpace a b → SameSpace b c → SameSpace a c
space_then a b c one two = search rules

-- the same region, over two calls
pub same_kept : (a b c : Kept) → SameKept a b → SameKept b c → SameKept a c
same_kept a b c one two = search rules

pub same_shape : (a b c : Table) → SameShape a b → SameShape b c → SameShape a c
same_shape a b c one two = search rules

-- all of it, over two calls
pub keeps_then : (p : WrittenExpression) (w : List ℕ) (a b c : Table) (k l m : Kept) → KeepsRegion p w a b k l → KeepsRegion p w b c l m → KeepsRegion p w a c k m
keeps_then p w a b c k l m one two = search rules

-- what a code says: where the cells of its state begin, and what is true of it
pub coded : {p : WrittenExpression} {t u : Table} {P : PassState → Type 0} {v : ℕ} (o : ℕ) → Codes p t u P v → ((flags : StateFlags) (n : ℕ) → n < 536870912 → v ≡ code_of flags n → o ≡ n) →
    IsOffset u o × P (state_of (length p.nodes) u (o / 2 ^ u.layout.shift))
coded {p} {u = u} {P} {v} o codes shows = (names_offset p u codes.table P v o codes.names shows, names_state p u codes.table P v o codes.names shows)

-- a pass comes down by a place more
pub comes_down : (p : WrittenExpression) (w : List ℕ) (first t after : Table) (start k : Kept) (high place offset next byte code to : ℕ) (edge : Bool) → high ≡ place + 1 →
    ComesDown p w first t start k high offset → Codes p t after (IsNext p t offset byte edge) code → ((flags : StateFlags) (n : ℕ) → n < 536870912 → code ≡ code_of flags n → next ≡ n) →
    place < to → to ≤ k.region.end → ((q : ℕ) → place < q → q < to → (after.epoch ≡ t.epoch) × (q < k.region.to)) → slice_get w place ≡ Some byte → (IsTrue edge ↔ (place ≡ 0)) →
    ComesDown p w first after start (record k { states = with_item k.states place (next / 2 ^ after.layout.shift); region = record k.region { to = to } }) place next
comes_down p w first t after start k high place offset next byte code to edge is down codes shows above within still got last =
    let old = down.passes in
    let m = length p.nodes in
    let s = next / 2 ^ after.layout.shift in
    let adds = codes.adds in
    let new = coded next codes shows in
    let under : place < k.region.end = omega (arith, is, old.within) in
    let at : KeptAt p w after.way.all_starts k.region.root k.region.end place (state_of m after s) =
    rw adds.shape.0 (kept_down p w t.way k.region.root k.region.end place byte edge (state_of m t (offset / 2 ^ t.layout.shift)) (state_of m after s) old.region.table.expr old.region.root.0 old.region.room.mirrored under old.region.inside got last new.1 (rw is at old.at)) in
    let live : (q : ℕ) → place ≤ q → q < to → IsLive p w after k.region.root k.region.end (slice_set k.states.items place s) q = λ q from before. elim (cases_lt place q) [
      | inl lt ↦
          let on = still q lt before in
          let was = old.live q (omega (arith, lt, is)) on.1 in
          rw (get_or-set_other k.states.items place q s 0 (λ e. omega arith))
          (omega (arith, (adds.grows on.0).0, was.0), subst (λ a. KeptAt p w after.way.all_starts k.region.root k.region.end q a) (sym (adds.kept on.0 (slice_index_or k.states.items q 0) was.0)) (rw adds.shape.0 was.1))
      | inr ge ↦ let e : q ≡ place = omega arith in rw (e, get_or-set_same k.states.items place s 0 (omega (arith, under, old.long, old.region.inside))) (new.0.0, at)
    ] in
    search (rules, live, at, new.0, length-set k.states.items place s, under, region_kept p w t after k, old.region, down, codes)

-- Blocks.

-- a place where a block begins is the right end of that of the place before it
pub block_right : (high w b : ℕ) → 0 < w → 0 < high → high ≡ b * w → high ≡ (high - 1) / w * w + w
block_right high w b some above is = search (rules, div-mul-le_self, lt-div-mul-add, mul-le-mul_right)

-- the rows of its right end are there, and long enough
pub edge_room : (p : WrittenExpression) (w : List ℕ) (t : Table) (k : Kept) (place : ℕ) → IsRegion p w t k → place ≤ k.region.end → let block = (place - 1) / (t.room - 1) in
    (2 * block + 1 < length k.edges) × (length p.nodes ≤ length (row_of k.edges (2 * block))) × (length p.nodes ≤ length (row_of k.edges (2 * block + 1)))
edge_room p w t k place region below =
    let low = region.room.blocks ((place - 1) / (t.room - 1)) (omega (arith, div-mul-le_self (place - 1) (t.room - 1), below, region.inside)) in
    (low, region.room.marks _ (omega (arith, low)), region.room.marks _ low)

-- the edges of a table, as a pass left them
pub edges_same : (p : WrittenExpression) (w : List ℕ) (t after : Table) (k other : Kept) (place lower : ℕ) → SameShape t after → other.edges ≡ k.edges → other.region.root ≡ k.region.root → other.region.end ≡ k.region.end → place ≤ lower →
    EdgesFrom p w t k place → EdgesFrom p w after other lower
edges_same p w t after k other place lower shape edges root end up old b above before = search rules

-- no block ends between the last one's beginning and the region's end
pub edges_none : (p : WrittenExpression) (w : List ℕ) (t : Table) (k : Kept) (block : ℕ) → k.region.end ≤ block * (t.room - 1) + (t.room - 1) → EdgesFrom p w t k (block * (t.room - 1))
edges_none p w t k block short b above before = search (rules, mul-le-mul_right)

-- The whole region, and a block of it.

-- what a pass came down to is kept
pub kept_passed : (p : WrittenExpression) (w : List ℕ) (t : Table) (k other : Kept) (place offset : ℕ) → PassesDownTo p w t k place offset → EdgesFrom p w t k other.region.low → other.region.low ≤ place → other.region.from ≡ place →
    other.states ≡ k.states → other.edges ≡ k.edges → other.region.root ≡ k.region.root → other.region.end ≡ k.region.end → other.region.to ≡ k.region.to → IsKept p w t other
kept_passed p w t k other place offset passes kept low from states edges root end to = grind arith

-- the state of the region's end
pub first_at : (p : WrittenExpression) (w : List ℕ) (t : Table) (k : Kept) (way : Way) (place : ℕ) (kind : PlaceKind) (a : PassState) → IsRegion p w t k → way ≡ t.way → place ≡ k.region.end →
    (IsTrue kind.begin ↔ (place ≡ 0)) → (IsTrue kind.end ↔ (place ≡ length w)) → BeginsIn (nodes_of t.way p) t.way k.region.root kind a →
    KeptAt p w way.all_starts k.region.root k.region.end place a
first_at p w t k way place kind a region same at begins ends first =
    let row = rw region.room.mirrored at first.1 in
    rw (same, at) (first.0, row (reverse w) (starts_shown t.way.all_starts (length w) k.region.end) (search (rules, region.inside, length-reverse w)) (grind arith))

-- What the marks say.

-- the number of a place's state, as it is read
pub kept_read : (p : WrittenExpression) (w : List ℕ) (t : Table) (k : Kept) (q s : ℕ) → IsKept p w t k → k.region.from ≤ q → q < k.region.to → s ≡ slice_index_or k.states.items q s → s ≡ slice_index_or k.states.items q 0
kept_read p w t k q s kept above before is = is ∙ get_or_default k.states.items q s 0 (omega (arith, kept.region, kept.low, kept.long (omega (arith, kept.region.within, kept.low))))

-- whether a node is marked at a place whose state is in the table
pub kept_mark : (p : WrittenExpression) (w : List ℕ) (t : Table) (k : Kept) (x q s row : ℕ) (mark : Bool) → IsKept p w t k → x < length p.nodes → k.region.from ≤ q → q < k.region.to → s ≡ slice_index_or k.states.items q s →
    row ≡ ends_row s → mark ≡ slice_index_or (row_of t.rows row) x false → IsTrue mark ↔ ReachesEnd p.nodes w k.region.root (ends_shown t.way.all_starts k.region.end) x q
kept_mark p w t k x q s row mark kept inside above before read at_row is =
    let row_at = rw (← kept_read p w t k q s kept above before read) at (kept.live q above before).1 in
    rw (is, at_row, ← bits_here (length p.nodes) (row_of t.rows (ends_row s)) x inside)
    (behind_reaches p w k.region.root x q (length w - q) (starts_shown t.way.all_starts (length w) k.region.end) (ends_shown t.way.all_starts k.region.end) _ _
    kept.region.table.expr.arena (shown_opposite t.way.all_starts (length w) k.region.end kept.region.inside) kept.region.inside (omega (arith, kept.region.within, kept.region.inside)) row_at.1)

-- a mark that is as asked, and one that isn't
pub mark_tells : (A : Type 0) (mark asked : Bool) → (IsTrue mark ↔ A) → (beq mark asked ≡ true → IsTrue asked ↔ A) × (beq mark asked ≡ false → IsTrue (not asked) ↔ A)
mark_tells A mark asked shows = grind arith

-- what holds of each place passed holds of a place more, and of further ones
pub holds_on : (P : ℕ → Type 0) (from place : ℕ) → ((q : ℕ) → from ≤ q → q < place → P q) → P place → (q : ℕ) → from ≤ q → q < place + 1 → P q
holds_on P from place passed here q after before = search rules

pub holds_then : (P : ℕ → Type 0) (from place to : ℕ) → ((q : ℕ) → from ≤ q → q < place → P q) → ((q : ℕ) → place ≤ q → q < to → P q) → (q : ℕ) → from ≤ q → q < to → P q
holds_then P from place to passed more q after before = search rules

-- what is said of the region stays so over calls
pub shown_as : (P : ℕ → Starts → Type 0) (p : WrittenExpression) (w : List ℕ) (t after : Table) (k other : Kept) → KeepsRegion p w t after k other → P other.region.root (ends_shown after.way.all_starts other.region.end) →
    P k.region.root (ends_shown t.way.all_starts k.region.end)
shown_as P p w t after k other keeps shown = search rules

-- A pass forwards beside the kept one.

-- two rows show by a mark that they have in common whether the passes meet at the place, as its state is read
pub meet_read : (p : WrittenExpression) (w : List ℕ) (t forward_one : Table) (k : Kept) (a i place offset n front_row s behind_row : ℕ) (met : Bool) → IsKept p w t k → k.region.from ≤ place → place < k.region.to → Follows p w forward_one a i place offset →
    n ≡ length p.nodes → front_row ≡ leaves_row (offset / 2 ^ forward_one.layout.shift) → s ≡ slice_index_or k.states.items place s → behind_row ≡ ends_row s →
    (IsTrue met ↔ ((c : ℕ) × (c < n) × IsTrue (slice_index_or (row_of forward_one.rows front_row) c false) × IsTrue (slice_index_or (row_of t.rows behind_row) c false))) →
    IsTrue met ↔ MeetsAt p.nodes w k.region.root (ends_shown t.way.all_starts k.region.end) a (one_start i) place
meet_read p w t forward_one k a i place offset n front_row s behind_row met kept above before follows count front_is read behind_is shows =
    let row_at = rw (← kept_read p w t k place s kept above before read) at (kept.live place above before).1 in
    let read = rw (count, front_is, behind_is) at shows in
    let two = meet_rows p w k.region.root a place (length w - place) (one_start i) (starts_shown t.way.all_starts (length w) k.region.end) (ends_shown t.way.all_starts k.region.end) forward_one.way.mirrored _ _ _ _
    kept.region.table.expr.arena (shown_opposite t.way.all_starts (length w) k.region.end kept.region.inside) kept.region.inside (omega (arith, kept.region.within, kept.region.inside)) (rw follows.0 at follows.1) row_at.1 in
    (λ m. two.0 (search (rules, read.0 m)), λ h. read.1 (search (rules, two.1 h)))

-- nowhere at the region's end
pub meet_end : (p : WrittenExpression) (w : List ℕ) (t : Table) (k : Kept) (a i : ℕ) → IsKept p w t k → MeetsAt p.nodes w k.region.root (ends_shown t.way.all_starts k.region.end) a (one_start i) k.region.end → ⊥
meet_end p w t k a i kept met =
    omega (arith, set_early p.nodes w k.region.root met.0 k.region.end (ends_shown t.way.all_starts k.region.end) met.1 kept.region.table.expr.arena met.2 met.4)

-- how the pass forwards goes on
pub follows_next : (p : WrittenExpression) (w : List ℕ) (t after : Table) (a i place byte offset next : ℕ) (edge : Bool) → IsExpr p.nodes p.groups → (state_of (length p.nodes) t (offset / 2 ^ t.layout.shift)).root < length p.nodes → t.way.mirrored ≡ false → t.way.all_starts ≡ false → SameShape t after → i ≤ place → slice_get w place ≡ Some byte →
    (IsTrue edge ↔ (place + 1 ≡ length w)) →
    LeadsOn p t.way (state_of (length p.nodes) t (offset / 2 ^ t.layout.shift)) byte edge (state_of (length p.nodes) after (next / 2 ^ after.layout.shift)) →
    Follows p w t a i place offset → Follows p w after a i (place + 1) next
follows_next p w t after a i place byte offset next edge expr inside front one shape from got last leads follows =
    let row = leads_place p t.way w (one_start i) place byte edge (state_of (length p.nodes) t (offset / 2 ^ t.layout.shift)) _ expr inside got last (grind arith) (rw front (rw front at follows.1)) leads in
    (leads.0 ∙ follows.0, rw (shape.0, front) (rw front at row))

pub follows_first : (p : WrittenExpression) (w : List ℕ) (t after : Table) (a i offset : ℕ) (kind : PlaceKind) → t.way.mirrored ≡ false → after.way ≡ t.way → (IsTrue kind.begin ↔ (i ≡ 0)) → (IsTrue kind.end ↔ (i ≡ length w)) →
    BeginsIn (nodes_of t.way p) t.way a kind (state_of (length p.nodes) after (offset / 2 ^ after.layout.shift)) → Follows p w after a i i offset
follows_first p w t after a i offset kind front way begins ends first =
    let row = (rw front at first.1) w (one_start i) (begins, ends) (omega arith) in
    (first.0, rw (first.0, way, front) row)
