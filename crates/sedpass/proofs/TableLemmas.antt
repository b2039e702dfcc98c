-- Tables of states.
use Rattle.sedpass.proofs.Words.{Node, InTree, at_begin, at_edge, seen-arena, Starts, IsStart, IsPlace, StateAt, Took, TakenBy, TookBy, byte_is_in, slice_get, ◌≡◌, ℕ, ◌+◌, ◌*◌, ◌/◌, ◌%◌, ◌^◌, ◌<◌, ◌≤◌, ◌⊎◌, ◌↔◌, Bool, true, false, List, length, Option, Some, IsTrue, refl, sym, ap, ◌∙◌, subst, inl, inr, arith, min, mul-le-mul_left, slice_index_or, slice_set, replicate, rules, vec_capacity, Vec, Global, get_or_past, length-replicate, same_from_place, shl-shr, shl_whole, with_item, pow-le-pow_right, cases_eq, cases_lt, get_or-replicate, get_or-set_same, get_or-set_other, IsExpr, WrittenExpression, seen, old_node, KeepsRows, row_of, StateFlags, PlaceKind, Way, Beginning, Table, IsApart, nodes_of, leaves_row, ends_row, SameBytes, PassState, HasRows, state_of, FlagsShow, HasNewRow, IsMade, LeadsOn, BeginsIn, NamesState, IsNext, IsOffset, cell_of, LeadsBy, beginning_at, beginning_of, MayBegin, root_of, HasRoom, IsRoomy, IsTable, SameRoom, AddsStates, Codes, code_of, cell_for, cells_in, column_for, IsLayout, Layout, Act, length-set, AreTakers, ◌≢◌, Set, ◌||◌, ◌&&◌, has_mark, bits, HasTakers, HasOrigin, IsOrigin, IfSome, IsBase, null_in, edge_kind, None, IsArena, seen-length, node_at, and_from, and_parts}
use Rattle.sedpass.specs.Table.{AreColumns, HasEdgeCells}
use Rattle.sedpass.proofs.ActLemmas.{same_truth}
use Rattle.sedpass.proofs.LeaveLemmas.{twice}
use Rattle.sedpass.proofs.FactLemmas.{null_shows}
use Rattle.sedpass.proofs.FollowLemmas.{null_same, row_of_place, took_same}
use Rattle.sedpass.proofs.RowLemmas.{InTree-inside, bits_clear, bits_here, row_took}
use Rattle.std.proofs.lemmas.Option.{IfSome_then}

-- places of cells
pub shifted : (q n s : ℕ) → q < n → n ≤ 65535 → s ≤ 8 → (q * 2 ^ s) % 2 ^ 64 ≡ q * 2 ^ s
shifted q n s lt few small = shl_whole q 16 s 64 (omega arith) (omega arith)

pub few_offset : (q n s : ℕ) → q < n → n ≤ 65535 → s ≤ 8 → q * 2 ^ s < 536870912
few_offset q n s lt few small = search rules

pub small_offset_at : (p : WrittenExpression) (t : Table) → IsTable p t → (o : ℕ) → IsOffset t o → o < 536870912
small_offset_at p t table o at = omega (arith, at.1, few_offset (o / 2 ^ t.layout.shift) t.room t.layout.shift (omega (arith, at.0, table.room.count)) table.room.rows.few table.layout.small)

pub cell_inside : (size q k n w len : ℕ) → q < n → k < w → w ≤ size → n * size ≤ len → q * size + k < len
cell_inside size q k n w len lt small fits is = search rules

-- where the cells of a state begin
pub state_offset : (p : WrittenExpression) (t : Table) (q : ℕ) → IsTable p t → q < t.count → ((q * 2 ^ t.layout.shift) % 2 ^ 64 ≡ q * 2 ^ t.layout.shift) × (q * 2 ^ t.layout.shift / 2 ^ t.layout.shift ≡ q)
state_offset p t q table lt = (shifted q t.room t.layout.shift (omega (arith, lt, table.room.count)) table.room.rows.few table.layout.small, shl-shr q t.layout.shift)

-- the code of a state that has the row that is being made, which shows that row's flags
pub codes_new : (p : WrittenExpression) (t u : Table) (q root v : ℕ) (flags : StateFlags) → IsTable p u → AddsStates (length p.nodes) t u → q < u.count → root < length p.nodes → flags.ends ≡ slice_index_or (row_of t.rows (ends_row t.count)) root false →
    (IsTrue flags.dead ↔ ((c : ℕ) → c < length p.nodes → slice_index_or (row_of t.rows (leaves_row t.count)) c false ≡ false)) → HasNewRow (length p.nodes) t root (state_of (length p.nodes) u q) →
    v ≡ code_of flags ((q * 2 ^ u.layout.shift) % 2 ^ 64) → Codes p t u (HasNewRow (length p.nodes) t root) v
codes_new p t u q root v flags table adds there inside ends dead has code =
    let same = λ (c : ℕ). ap (λ (f : ℕ → Bool). f c) has.1 in
    let shown : FlagsShow (state_of (length p.nodes) u q) flags = (cc (bits_here (length p.nodes) (row_of t.rows (ends_row t.count)) root inside), search (rules, bits_clear, bits_here, dead)) in
    search (rules, shown, shifted, table.room.count, table.room.rows.few, table.layout.small)

-- what is known of the cells for bytes
module _ (nodes : List Node) (mirrored : Bool) (layout : Layout) (is : IsLayout nodes mirrored layout) where
  pub bytes_alike : (one other : ℕ) → one < 256 → other < 256 → column_for layout one < layout.filled → column_for layout one ≡ column_for layout other → SameBytes nodes (Some one) (Some other)
  unfolding AreColumns
  bytes_alike = is.bytes.1

  pub cell_low : (byte : ℕ) (edge : Bool) → byte < 256 → cell_for layout byte edge < cells_in layout
  unfolding AreColumns
  cell_low byte true small = omega (arith, is.bytes.0 byte small)
  cell_low byte false small = omega (arith, is.bytes.0 byte small)

  -- a cell is of one column, at the edge or elsewhere, unless that tells nothing
  cell_apart : (byte other : ℕ) (edge end : Bool) → byte < 256 → other < 256 → cell_for layout byte edge ≡ cell_for layout other end →
      (column_for layout other ≡ column_for layout byte) × ((x : ℕ) → x < length nodes → null_in nodes (edge_kind mirrored end) x ≡ null_in nodes (edge_kind mirrored edge) x)
  unfolding AreColumns HasEdgeCells
  cell_apart byte other true true small small' same = (omega (arith, same), λ x lt. refl)
  cell_apart byte other false false small small' same = (sym same, λ x lt. refl)
  cell_apart byte other true false small small' same = elim is.edges [ inl apart ↦ absurd (omega (arith, same, apart, is.bytes.0 other small')) | inr none ↦ (omega (arith, same, none.0), λ x lt. sym (none.1 x lt)) ]
  cell_apart byte other false true small small' same = elim is.edges [ inl apart ↦ absurd (omega (arith, same, apart, is.bytes.0 byte small)) | inr none ↦ (omega (arith, same, none.0), none.1) ]

-- a leaf takes bytes of one class alike, however the expression is seen
taken_alike : (mirrored : Bool) (e : WrittenExpression) (byte other : ℕ) → SameBytes e.nodes (Some byte) (Some other) → (c : ℕ) (node : Node) → slice_get (seen mirrored e).nodes c ≡ Some node → TakenBy (Some byte) node ↔ TakenBy (Some other) node
taken_alike false e byte other same c node is = let bytes = same c in search rules
taken_alike true e byte other same c node is = let bytes = same c in search (rules, old_node, twice)

-- leaves that take a byte take another one of the same sets
pub takers_alike : (way : Way) (e : WrittenExpression) (byte other : ℕ) (marks : List Bool) → SameBytes e.nodes (Some byte) (Some other) → AreTakers (nodes_of way e) byte marks → AreTakers (nodes_of way e) other marks
takers_alike way e byte other marks same takers c node is = let alike = taken_alike way.mirrored e byte other same c node is in let law = takers c node is in search rules

-- a state leads on alike by bytes of one class, and whether the text's edge comes or doesn't, where that tells nothing
leads_alike : (e : WrittenExpression) (way : Way) (a b : PassState) (byte other : ℕ) (edge end : Bool) → IsArena (nodes_of way e) → a.root < length e.nodes → SameBytes e.nodes (Some byte) (Some other) →
    ((x : ℕ) → x < length e.nodes → null_in e.nodes (edge_kind way.mirrored end) x ≡ null_in e.nodes (edge_kind way.mirrored edge) x) → LeadsOn e way a byte edge b → LeadsOn e way a other end b
leads_alike e way a b byte other edge end arena inside same null leads =
    let took : TookBy (nodes_of way e) a.root a.entered (Some other) leads.1.0 = λ c node there is. let alike = taken_alike way.mirrored e byte other same c node is in let law = leads.1.1 c node there is in search rules in
    let long = seen-length way.mirrored e in
    search (rules, took, null_same, null, leads)

-- the state after is that of the next place
pub leads_place : (e : WrittenExpression) (way : Way) (w : List ℕ) (s : Starts) (p byte : ℕ) (edge : Bool) (a b : PassState) → IsExpr e.nodes e.groups → a.root < length e.nodes → slice_get w p ≡ Some byte → (IsTrue edge ↔ (p + 1 ≡ length w)) →
    (IsTrue way.all_starts ↔ IsStart s (p + 1)) → StateAt (nodes_of way e) w s way.mirrored p a → LeadsOn e way a byte edge b → StateAt (nodes_of way e) w s way.mirrored (p + 1) b
leads_place e way w s p byte edge a b expr inside read last starts at leads =
    let nodes = nodes_of way e in
    let arena = seen-arena way.mirrored e expr.arena in
    let kind = edge_kind way.mirrored edge in
    let place : IsPlace w (p + 1) (at_begin way.mirrored kind) (at_edge way.mirrored kind) = grind (arith, last) in
    let shows = row_took nodes w a.root p s way.mirrored a.entered a.ended (Some byte) (λ x m set. ap (λ k. byte_is_in k m) read) at in
    let takes : (c : ℕ) (members : List Bool) → InTree nodes a.root c → slice_get nodes c ≡ Some (Set members) → IsTrue (leads.1.0 c) ↔ Took nodes w a.root s (p + 1) c members = search (rules, leads.1.1, shows, and_from, and_parts) in
    rw leads.0 (row_of_place _ _ _ _ _ arena (omega (arith, inside, seen-length way.mirrored e)) _ _ _ _ (null_shows way.mirrored e kind w (p + 1) place) starts takes _ _ leads.1.2)

-- where a beginning is noted tells which it is
same_beginning : (all_starts : Bool) (x root end : ℕ) (other kind : PlaceKind) → (IsTrue all_starts → x ≡ end) → (IsTrue all_starts → root ≡ end) → beginning_at all_starts x other ≡ beginning_at all_starts root kind → (x ≡ root) × (other ≡ kind)
same_beginning all_starts x root end other kind one two same = grind arith

-- what the table names
pub names_map : (m : ℕ) (t : Table) (P Q : PassState → Type 0) (v : ℕ) → ((a : PassState) → P a → Q a) → NamesState m t P v → NamesState m t Q v
names_map m t P Q v up n = search (rules, n, up)

-- where a beginning is noted in this epoch, it is right
abbrev Begun : WrittenExpression → Table → Way → ℕ → PlaceKind → Type 0
Begun p u way root kind = MayBegin p way root → (beginning_of u (beginning_at way.all_starts root kind)).epoch ≡ u.epoch →
    NamesState (length p.nodes) u (BeginsIn (nodes_of way p) way root kind) (beginning_of u (beginning_at way.all_starts root kind)).code

module _ (p : WrittenExpression) (t t' : Table) (adds : AddsStates (length p.nodes) t t') (epoch : t'.epoch ≡ t.epoch) where
  abbrev m : ℕ
  m = length p.nodes

  pub names_more : (P : PassState → Type 0) (v : ℕ) → NamesState m t P v → NamesState m t' P v
  names_more P v n =
      let is = subst (λ (a : PassState). FlagsShow a n.flags × P a) (sym (adds.kept epoch n.to n.there)) (n.shown, n.is) in let up = adds.grows epoch in
      record { to = n.to; there = omega (arith, n.there, up); flags = n.flags; shown = is.0; code = rw adds.shape.2 n.code; is = is.1 }

  pub offset_more : (o : ℕ) → IsOffset t o → IsOffset t' o
  offset_more o at = let up = adds.grows epoch in search rules

  leads_more : (q : ℕ) → q < t.count → (b : PassState) (byte : ℕ) (edge : Bool) → LeadsOn p t.way (state_of m t q) byte edge b → LeadsOn p t'.way (state_of m t' q) byte edge b
  leads_more q there b byte edge leads = subst (λ (a : PassState). LeadsOn p t'.way a byte edge b) (sym (adds.kept epoch q there)) (rw adds.shape.0 leads)

  begun_more : (root : ℕ) (kind : PlaceKind) → beginning_of t' (beginning_at t.way.all_starts root kind) ≡ beginning_of t (beginning_at t.way.all_starts root kind) → Begun p t t.way root kind → Begun p t' t'.way root kind
  begun_more root kind same begun = grind (arith, names_more)

  -- the origin is one still
  pub origin_more : t'.origin ≡ t.origin → HasOrigin p t → HasOrigin p t'
  origin_more same has = subst (λ (o : Option ℕ). IfSome o (NamesState m t' (IsOrigin p t'.way))) (sym same) (IfSome_then t.origin has (λ v names. names_map m t' (IsOrigin p t.way) (IsOrigin p t'.way) v (λ a is. rw adds.shape.0 is) (names_more _ v names)))

  -- the table is right, if each state, cell and beginning is that isn't as it was
  pub table_more : IsTable p t → HasRoom m t' → ((q : ℕ) → q < t'.count → (q < t.count) ⊎ ((state_of m t' q).root < m)) →
      ((q k : ℕ) → q < t'.count → k < cells_in t'.layout → 0 < cell_of t' q k → ((q < t.count) × (cell_of t' q k ≡ cell_of t q k)) ⊎ NamesState m t' (LeadsBy p t' q k) (cell_of t' q k)) →
      ((r : ℕ) (kind : PlaceKind) → (beginning_of t' (beginning_at t.way.all_starts r kind) ≡ beginning_of t (beginning_at t.way.all_starts r kind)) ⊎ Begun p t' t'.way r kind) → HasTakers p t' → (t'.origin ≡ t.origin) ⊎ HasOrigin p t' → IsTable p t'
  table_more table room roots cells begins takers origin = record {
    expr = table.expr;
    room = room;
    layout = rw (adds.shape.0, adds.shape.2) table.layout;
    roots = search rules;
    filled = λ q k there column some. elim (cells q k there column some) [
      | inl old ↦ rw old.1 (names_map m t' (LeadsBy p t q k) (LeadsBy p t' q k) _ (λ b leads byte edge small is. leads_more q old.0 b byte edge (leads byte edge small (rw adds.shape.2 at is)))
          (names_more (LeadsBy p t q k) _ (table.filled q k old.0 (rw adds.shape.2 at column) (rw old.1 at some))))
      | inr new ↦ new
    ];
    begun = λ root kind. elim (begins root kind) [ inl old ↦ begun_more root kind old (table.begun root kind) | inr new ↦ new ];
    takers = takers;
    origin = elim origin [ inl same ↦ origin_more same table.origin | inr new ↦ new ];
  }

-- one element is set
one_set : {A : Type 0} (d : A) (items : List A) (at : ℕ) (x : A) (i : ℕ) → at < length items → ((i ≡ at) × (slice_index_or (slice_set items at x) i d ≡ x)) ⊎ (slice_index_or (slice_set items at x) i d ≡ slice_index_or items i d)
one_set d items at x i inside = search (rules, cases_eq i at, get_or-set_same, get_or-set_other)

-- where other cells and beginnings are noted, and an origin
module _ (p : WrittenExpression) (t : Table) (cells : Vec ℕ Global) (beginnings : Vec Beginning Global) (links : Vec ℕ Global) (origin : Option ℕ) where
  abbrev noted : Table
  noted = record t { cells = cells; beginnings = beginnings; links = links; origin = origin }

  pub names_noted : (P : PassState → Type 0) (v : ℕ) → NamesState (length p.nodes) t P v → NamesState (length p.nodes) noted P v
  names_noted P v n = search (rules, n)

  -- what a table names
  coded : (old : Table) (P : PassState → Type 0) (v : ℕ) → Codes p old t P v → vec_capacity cells ≡ vec_capacity t.cells → HasRoom (length p.nodes) noted →
      ((q k : ℕ) → k < cells_in t.layout → (cell_of noted q k ≡ cell_of t q k) ⊎ NamesState (length p.nodes) noted (LeadsBy p t q k) (cell_of noted q k)) → ((r : ℕ) (kind : PlaceKind) →
      (beginning_of noted (beginning_at t.way.all_starts r kind) ≡ beginning_of t (beginning_at t.way.all_starts r kind)) ⊎ Begun p noted t.way r kind) → IfSome origin (NamesState (length p.nodes) t (IsOrigin p t.way)) → Codes p old noted P v
  coded old P v codes same room cells begins is =
      let table = table_more p t noted (search rules) refl codes.table room (λ q low. inl low) (λ q k low near some. elim (cells q k near) [ inl e ↦ inl (low, e) | inr new ↦ inr new ]) begins codes.table.takers (inr (IfSome_then origin is (names_noted _))) in
      let adds = codes.adds in search (rules, names_noted, table)

pub codes_map : (p : WrittenExpression) (old t : Table) (P Q : PassState → Type 0) (v : ℕ) → ((a : PassState) → P a → Q a) → Codes p old t P v → Codes p old t Q v
codes_map p old t P Q v up codes = search (rules, names_map)

module _ (p : WrittenExpression) (old t : Table) where
  -- one more cell is filled
  pub note_cell : (offset v byte : ℕ) (edge : Bool) → t.epoch ≡ old.epoch → IsOffset old offset → byte < 256 → column_for t.layout byte < t.layout.filled → (k : ℕ) → k ≡ cell_for t.layout byte edge →
      Codes p old t (IsNext p old offset byte edge) v → Codes p old (record t { cells = with_item t.cells (offset + k) v }) (IsNext p old offset byte edge) v
  note_cell offset v byte edge epoch from small filled k is codes =
      let table = codes.table in
      let size = 2 ^ t.layout.shift in
      let q = offset / size in
      let there = offset_more p old t codes.adds epoch offset from in
      let narrow : k < cells_in t.layout = rw is (cell_low p.nodes t.way.mirrored t.layout table.layout byte edge small) in
      let inside : offset + k < length t.cells.items = omega (arith, there.1, cell_inside size q k t.count (cells_in t.layout) (length t.cells.items) there.0 narrow table.layout.fits table.room.cells) in
      let leads : NamesState (length p.nodes) t (LeadsBy p t q k) v = names_map _ _ _ _ v (λ b next o end few at.
      let one = cell_apart p.nodes t.way.mirrored t.layout table.layout byte o edge end small few (sym is ∙ at) in
      let on = leads_more p old t codes.adds epoch q (rw codes.adds.shape.2 from.0) b byte edge (rw codes.adds.shape.2 next) in
      leads_alike p t.way (state_of (length p.nodes) t q) b byte o edge end (seen-arena t.way.mirrored p table.expr.arena) (table.roots q there.0) (bytes_alike _ _ _ table.layout byte o small few filled (sym one.0)) one.1 on) codes.names in
      coded p t (with_item t.cells (offset + k) v) t.beginnings t.links t.origin old _ v codes refl (search (rules, length-set)) (λ x j near. elim (one_set 0 t.cells.items (offset + k) v (x * size + j) inside) [
        | inl e ↦ let at = same_from_place x j q k size (omega (arith, near, table.layout.fits)) (omega (arith, narrow, table.layout.fits)) (omega (arith, e.0, there.1)) in inr (rw (e.1, at.1, at.0) (names_noted p t _ _ _ _ _ v leads))
        | inr other ↦ inl other
      ]) (λ root kind. inl refl) table.origin

  -- one more beginning is noted
  pub note_beginning : (root code : ℕ) (kind : PlaceKind) → MayBegin p old.way root → t.epoch < 4294967294 → Codes p old t (BeginsIn (nodes_of old.way p) old.way root kind) code →
      Codes p old (record t { beginnings = with_item t.beginnings (beginning_at t.way.all_starts root kind) (record { epoch = t.epoch; code = code }) }) (BeginsIn (nodes_of old.way p) old.way root kind) code
  note_beginning root code kind may epoch codes =
      let fresh : Beginning = record { epoch = t.epoch; code = code } in
      let at = beginning_at t.way.all_starts root kind in
      let has = codes.table.room in
      let one = λ (i : ℕ). one_set (record { epoch = 0; code = 0 }) t.beginnings.items at fresh i (has.begins root kind (omega (arith, may.0, has.marks))) in
      coded p t t.cells (with_item t.beginnings at fresh) t.links t.origin old _ code codes refl (search (rules, length-set, has.begins, has.past, has.early, one)) (λ x k near. inl refl) (λ x other. elim (one (beginning_at t.way.all_starts x other)) [
        | inl e ↦ inr (λ may' now.
            let same = same_beginning t.way.all_starts x root (root_of p) other kind may'.1 (rw (← codes.adds.shape.0) at may.1) e.0 in
            rw (ap (λ (b : Beginning). b.code) e.1, same.0, same.1) (names_noted p t _ _ _ _ _ code (names_map _ _ _ _ code (λ a is. rw codes.adds.shape.0 is) codes.names)))
        | inr old ↦ inl old
      ]) codes.table.origin

-- what is noted of a link, and of an origin, changes nothing else
pub with_link : (p : WrittenExpression) (old t : Table) (P : PassState → Type 0) (v state link : ℕ) (origin : Option ℕ) → IfSome origin (NamesState (length p.nodes) t (IsOrigin p t.way)) →
    Codes p old t P v → Codes p old (record t { links = with_item t.links state link; origin = origin }) P v
with_link p old t P v state link origin is codes = let has = codes.table.room in coded p t t.cells t.beginnings (with_item t.links state link) origin old P v codes refl (search (rules, length-set)) (λ q k near. inl refl) (λ root kind. inl refl) is

-- no state was added
pub adds_none : (m : ℕ) (t : Table) → AddsStates m t t
adds_none m t = search rules

-- a table that forgot all its states, in an epoch that no beginning has
pub emptied : (p : WrittenExpression) (t : Table) (epoch : ℕ) (takers : List Bool) → IsExpr p.nodes p.groups → HasRoom (length p.nodes) t → IsLayout p.nodes t.way.mirrored t.layout →
    ((noted : ℕ) → noted ≤ t.epoch → noted < 4294967294 → noted < epoch) → HasTakers p (record t { has_takers = takers }) → IsTable p (record t { has_takers = takers; origin = None; count = 0; epoch = epoch })
emptied p t epoch takers expr room layout later right =
    let past : (i : ℕ) → (beginning_of t i).epoch < epoch = λ i. later (beginning_of t i).epoch (room.past i) (room.early i) in
    search rules

-- the state to which an act led
pub leads_on : (act : Act) (a b : PassState) (byte : ℕ) (edge : Bool) → act.root ≡ a.root → act.kind ≡ edge_kind act.way.mirrored edge → IsMade act byte a.entered b → LeadsOn act.prepared.now act.way a byte edge b
leads_on act a b byte edge root kind made = search rules

-- the state with whose row an act begins: that to which a state leads of which fewer leaves took the byte
pub base_next : (act : Act) (byte : ℕ) (edge : Bool) (leaves takers before after : List Bool) (a b : PassState) → a.root ≡ act.root → act.kind ≡ edge_kind act.way.mirrored edge → act.root < length act.prepared.now.nodes → IsArena (nodes_of act.way act.prepared.now) →
    a.entered ≡ bits (length act.prepared.now.nodes) leaves → AreTakers (nodes_of act.way act.prepared.now) byte takers →
    ((c : ℕ) → c < length act.prepared.now.nodes → has_mark before c ≡ ((has_mark leaves c && has_mark takers c) || has_mark after c)) → LeadsOn act.prepared.now act.way a byte edge b → IsBase act before after b
base_next act byte edge leaves takers before after a b root kind inside arena entered are others leads =
    let e = act.prepared.now in
    let nodes = nodes_of act.way e in
    record {
      root = leads.0 ∙ root;
      own_leaves = leads.1.0;
      own_row = rw (← root, kind) leads.1.2;
      others = λ c there.
          let lt : c < length e.nodes = omega (arith, InTree-inside nodes arena act.root c there, inside) in
          let node = node_at nodes c (omega (arith, lt, seen-length act.way.mirrored e)) in
          let law = leads.1.1 c node.0 (rw root there) node.1 in
          let here : a.entered c ≡ has_mark leaves c = ap (λ (f : ℕ → Bool). f c) entered ∙ bits_here (length e.nodes) leaves c lt in
          rw (same_truth (leads.1.0 c) (has_mark leaves c && has_mark takers c) (λ h. search (rules, law.0, and_from, are c node.0 node.1)) (λ h. search (rules, and_parts (has_mark leaves c) (has_mark takers c) h, law.1, are c node.0 node.1))) (others c lt);
    }

-- where nothing else took the byte it is that to which the act leads
pub base_made : (act : Act) (byte : ℕ) (leaves : ℕ → Bool) (before after : List Bool) (a : PassState) → IsArena (nodes_of act.way act.prepared.now) → act.root < length act.prepared.now.nodes →
    ((c : ℕ) → c < length act.prepared.now.nodes → has_mark after c ≡ false) → TookBy (nodes_of act.way act.prepared.now) act.root leaves (Some byte) (has_mark before) → IsBase act before after a → IsMade act byte leaves a
base_made act byte leaves before after a arena inside none shows base =
    let row = took_same _ _ _ _ _ _ _ _ _ (λ c there. grind (arith, base.others c there, none c (omega (arith, InTree-inside _ arena act.root c there, inside)))) base.own_row in
    record { root = base.root; comes_next = (has_mark before, shows, row) }

-- what a code names
module _ (p : WrittenExpression) (t : Table) (table : IsTable p t) (P : PassState → Type 0) (v o : ℕ) (n : NamesState (length p.nodes) t P v) (shows : (flags : StateFlags) (u : ℕ) → u < 536870912 → v ≡ code_of flags u → o ≡ u) where
  small_offset : n.to * 2 ^ t.layout.shift < 536870912
  small_offset = few_offset n.to t.room t.layout.shift (let low = n.there in let most = table.room.count in omega arith) table.room.rows.few table.layout.small

  offset_is : (o ≡ n.to * 2 ^ t.layout.shift) × (o / 2 ^ t.layout.shift ≡ n.to)
  offset_is = let is = shows n.flags _ small_offset n.code in (is, ap (λ x. x / 2 ^ t.layout.shift) is ∙ shl-shr n.to t.layout.shift)

  pub names_offset : IsOffset t o
  names_offset = search (rules, offset_is)

  pub names_state : P (state_of (length p.nodes) t (o / 2 ^ t.layout.shift))
  names_state = rw offset_is.1 n.is

  -- what the code shows are the flags of its state
  pub names_flags : (shown : StateFlags) → ((flags : StateFlags) (u : ℕ) → u < 536870912 → v ≡ code_of flags u → shown ≡ flags) → FlagsShow (state_of (length p.nodes) t (o / 2 ^ t.layout.shift)) shown
  names_flags shown show = rw (offset_is.1, show n.flags _ small_offset n.code) n.shown

-- a code's state has a number
pub named_state : (p : WrittenExpression) (t : Table) → IsTable p t → (P : PassState → Type 0) (code base : Option ℕ) → IfSome code (NamesState (length p.nodes) t P) → (code ≡ None → base ≡ None) →
    IfSome base (λ q. IfSome code (λ v. (o : ℕ) × (q ≡ o / 2 ^ t.layout.shift) × ((flags : StateFlags) (u : ℕ) → u < 536870912 → v ≡ code_of flags u → o ≡ u))) → IfSome base (λ q. (q < t.count) × P (state_of (length p.nodes) t q))
named_state p t table P code None names none named = search rules
named_state p t table P None (Some q) names none named = let is = none refl in cc
named_state p t table P (Some v) (Some q) names none named = rw named.1 ((names_offset p t table P v named.0 names named.2).0, names_state p t table P v named.0 names named.2)

-- what a cell holds
module _ (p : WrittenExpression) (t : Table) (table : IsTable p t) (offset byte : ℕ) (edge : Bool) (at : IsOffset t offset) (small : byte < 256) where
  pub cell_there : offset + cell_for t.layout byte edge < length t.cells.items
  cell_there = search (rules, cell_inside, cell_low)

  pub known_cell : (v : ℕ) → v ≡ cell_of t (offset / 2 ^ t.layout.shift) (cell_for t.layout byte edge) → 0 < v → NamesState (length p.nodes) t (LeadsOn p t.way (state_of (length p.nodes) t (offset / 2 ^ t.layout.shift)) byte edge) v
  known_cell v same some = rw same (names_map _ _ _ _ _ (λ b leads. leads byte edge small refl) (table.filled _ _ at.0 (cell_low p.nodes t.way.mirrored t.layout table.layout byte edge small) (rw same at some)))

-- a list of one element alone, and none beyond it
pub same_all : {A : Type 0} → (d : A) (n k : ℕ) → slice_index_or (replicate n d) k d ≡ d
same_all d n k = search (rules, cases_lt k n, get_or-replicate, get_or_past, length-replicate)

-- a table that has all its parts, and no state, has all its room
pub has_parts : (t : Table) → t.count ≡ 0 → HasRows t.room t.marks t.rows t.roots.items → t.layout.shift ≤ 8 → 2 ^ t.layout.shift ≤ 4 * (t.marks + 1) → t.room * min 256 (4 * (t.marks + 1)) ≤ vec_capacity t.cells → length t.links.items ≡ t.room → 2 ≤ length t.index.items →
    ((root : ℕ) (kind : PlaceKind) → root < t.marks → beginning_at t.way.all_starts root kind < length t.beginnings.items) → ((i : ℕ) → (beginning_of t i).epoch ≡ 0) → HasRoom t.marks t
has_parts t none rows small tight reserved links index begins noted = search (rules, pow-le-pow_right, mul-le-mul_left)

-- a table has all its room again, after it served an expression
pub roomy_still : (m : ℕ) (p : WrittenExpression) (t t' : Table) → IsRoomy m t → SameRoom t t' → IsTable p t' → IsRoomy m t'
roomy_still m p t t' roomy same table layout small tight = search rules

-- and for fewer nodes
pub roomy_fewer : (k m : ℕ) (t : Table) → k ≤ m → IsRoomy m t → IsRoomy k t
roomy_fewer k m t few roomy layout small tight = search rules

-- the rows of no state change where those of an act do
pub keeps_states : (z n : ℕ) (a b : List (List Bool)) → z < 2 → KeepsRows (λ q. q ≢ z) a b → KeepsRows (IsApart 2 n) a b
keeps_states z n a b low keeps = search (rules, keeps.same)

pub keeps_made : (n : ℕ) (a b c : List (List Bool)) → KeepsRows (λ q. 2 ≤ q) a b → KeepsRows (IsApart 1 n) b c → KeepsRows (IsApart 2 n) a c
keeps_made n a b c one two = search (rules, one.same, two.same)

-- a table whose states have their rows still is right
module _ (p : WrittenExpression) (t : Table) (rows : List (List Bool)) (keeps : KeepsRows (IsApart 2 t.count) t.rows rows) where
  pub table_rows : IsTable p t → t.count < t.room → IsTable p (record t { rows = rows })
  table_rows table some = let old = table.room in table_more p t _ (search rules) refl table (search rules) (λ q low. inl low) (λ q k low near some. inl (low, refl)) (λ root kind. inl refl) (search (rules, keeps.same, table.takers)) (inl refl)

  pub adds_rows : (new : Table) → AddsStates (length p.nodes) (record t { rows = rows }) new → AddsStates (length p.nodes) t new
  adds_rows new adds = search (rules, keeps.same, adds)

-- and one where a row of takers is made besides
module _ (p : WrittenExpression) (t : Table) (rows : List (List Bool)) (z : ℕ) (takers : List Bool) (before : z < leaves_row 0) (keeps : KeepsRows (λ q. IsApart 2 t.count q × (q ≢ z)) t.rows rows) where
  pub table_notes : IsTable p t → HasTakers p (record t { rows = rows; has_takers = takers }) → IsTable p (record t { rows = rows; has_takers = takers })
  table_notes table right = let old = table.room in table_more p t _ (search (rules, keeps.same)) refl table (search rules) (λ q low. inl low) (λ q k low near some. inl (low, refl)) (λ root kind. inl refl) right (inl refl)
