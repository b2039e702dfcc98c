-- Private to the proofs: no contract that `sedmatch` makes public cites what is here.
-- A table of the passes of one way: its states, its cells, and the codes by which they name states.
use Rattle.std.specs.Prelude.{◌&&◌, ◌||◌, not, IfSome, ◌≡◌, ℕ, ◌+◌, ◌*◌, ◌/◌, ◌%◌, ◌^◌, ◌<◌, ◌≤◌, ◌↔◌, ◌⊎◌, Bool, true, false, List, length, slice_index_or, Some, IsTrue, vec_capacity}
use Rattle.std.specs.Int.{from_bool}
use Rattle.sedre.specs.Arena.{IsExpr}
use Rattle.sedre.specs.declared.types.Node.{Node}
use Rattle.sedtext.specs.Reach.{Starts}
use Rattle.sedtext.specs.Words.{row_of}
use Rattle.sedpass.specs.Rows.{nodes_of, at_begin, at_edge, bits, leaves_row, ends_row, takers_row, RowOfPlace, IsFirstRow, RowFollows, RowLeadsTo, InTree, AreTakers, SameBytes, has_mark, root_of}
use Rattle.sedpass.specs.Prepared.{SameNulls, null_in}
use Rattle.sedpass.specs.declared.nodes.PlaceKind.{PlaceKind}
use Rattle.sedre.specs.Tree.{WrittenExpression}
use Rattle.sedpass.specs.declared.rows.Act.{Act}
use Rattle.sedpass.specs.declared.rows.Way.{Way}
use Rattle.sedpass.specs.declared.cells.StateFlags.{StateFlags}
use Rattle.sedpass.specs.declared.cells.Layout.{Layout}
use Rattle.sedpass.specs.declared.table.Beginning.{Beginning}
use Rattle.sedpass.specs.declared.table.Table.{Table}

-- Codes of states, and where the cells of a state are.

-- the number that names the state whose cells begin at the offset, and shows its flags
abbrev pub code_of : StateFlags → ℕ → ℕ
code_of flags offset = offset + 536870912 * (1 + 2 * from_bool flags.ends + 4 * from_bool flags.dead)

-- the column of a byte
abbrev pub column_for : Layout → ℕ → ℕ
column_for layout byte = slice_index_or layout.column_of byte 0

-- which of a state's cells is for a byte, where the text's edge comes after it, or doesn't
abbrev pub cell_for : Layout → ℕ → Bool → ℕ
cell_for layout byte true = layout.edge_at + column_for layout byte
cell_for layout byte false = column_for layout byte

-- how many cells a state has
abbrev pub cells_in : Layout → ℕ
cells_in layout = layout.edge_at + layout.columns

-- each byte has a column, and bytes of one that is filled are in the same sets
unfoldable pub AreColumns : List Node → Layout → Type 0
AreColumns nodes layout =
    ((byte : ℕ) → byte < 256 → column_for layout byte < layout.columns)
    × ((one other : ℕ) → one < 256 → other < 256 → column_for layout one < layout.filled → column_for layout one ≡ column_for layout other → SameBytes nodes (Some one) (Some other))

-- there are cells apart for bytes after which the text's edge comes, unless that tells nothing for null strings
unfoldable pub HasEdgeCells : List Node → Bool → Layout → Type 0
HasEdgeCells nodes mirrored layout = (layout.columns ≤ layout.edge_at) ⊎ ((layout.edge_at ≡ 0) × SameNulls nodes mirrored (length nodes))

-- the cells of a state are few for the nodes, and have room
pub record IsLayout (nodes : List Node) (mirrored : Bool) (layout : Layout) : Type 0 where
  pub few : cells_in layout ≤ 2 * length nodes + 2
  pub bytes : AreColumns nodes layout
  pub small : layout.shift ≤ 8
  pub tight : 2 ^ layout.shift ≤ 4 * (length nodes + 1)
  pub fits : cells_in layout ≤ 2 ^ layout.shift
  pub edges : HasEdgeCells nodes mirrored layout

-- States.

-- the root of a pass, and the row of a place in it
pub record PassState : Type 0 where
  pub root : ℕ
  pub entered : ℕ → Bool
  pub ended : ℕ → Bool

-- the state of a table with this number, for m nodes
abbrev pub state_of : ℕ → Table → ℕ → PassState
state_of m t q = record { root = slice_index_or t.roots.items q 0; entered = bits m (row_of t.rows (leaves_row q)); ended = bits m (row_of t.rows (ends_row q)) }

-- the flags show whether the root ends, and whether no leaf is entered
abbrev pub FlagsShow : PassState → StateFlags → Type 0
FlagsShow a flags = (flags.ends ≡ a.ended a.root) × (IsTrue flags.dead ↔ ((c : ℕ) → a.entered c ≡ false))

-- the state has this root and row
abbrev pub HasRow : ℕ → (ℕ → Bool) → (ℕ → Bool) → PassState → Type 0
HasRow root entered ended a = (a.root ≡ root) × (a.entered ≡ entered) × (a.ended ≡ ended)

-- the state's row is that of the place
abbrev pub StateAt : List Node → List ℕ → Starts → Bool → ℕ → PassState → Type 0
StateAt nodes w s keeps p a = RowOfPlace nodes w a.root s keeps p a.entered a.ended

-- the kind of a place after a byte, which is the text's edge where passes go, or isn't
abbrev pub edge_kind : Bool → Bool → PlaceKind
edge_kind mirrored edge = record { begin = edge && mirrored; end = edge && not mirrored }

-- this byte leads from the one state to the other, where the text's edge comes after it, or doesn't
abbrev pub LeadsOn : WrittenExpression → Way → PassState → ℕ → Bool → PassState → Type 0
LeadsOn e way a byte edge b = (b.root ≡ a.root) ×
    RowLeadsTo (nodes_of way e) a.root way.mirrored (null_in e.nodes (edge_kind way.mirrored edge)) a.entered (Some byte) way.all_starts b.entered b.ended

-- a pass for the root begins in the state, at places of the kind
abbrev pub BeginsIn : List Node → Way → ℕ → PlaceKind → PassState → Type 0
BeginsIn nodes way root kind a = (a.root ≡ root) × IsFirstRow nodes root way.mirrored (at_begin way.mirrored kind) (at_edge way.mirrored kind) a.entered a.ended

-- the rows of the state of that number follow, for an act, from the leaves that took the byte
abbrev pub RowIs : Act → Bool → (ℕ → Bool) → List (List Bool) → ℕ → Type 0
RowIs act first took rows state = let m = length act.prepared.now.nodes in
    RowFollows (nodes_of act.way act.prepared.now) act.root act.way.mirrored first (null_in act.prepared.now.nodes act.kind) took (bits m (row_of rows (leaves_row state))) (bits m (row_of rows (ends_row state)))

-- the state has the root of an act, and the row to which that leads from the leaves entered before and a byte
pub record IsMade (act : Act) (byte : ℕ) (leaves : ℕ → Bool) (a : PassState) : Type 0 where
  pub root : a.root ≡ act.root
  pub comes_next : RowLeadsTo (nodes_of act.way act.prepared.now) act.root act.way.mirrored (null_in act.prepared.now.nodes act.kind) leaves (Some byte) act.way.all_starts a.entered a.ended

-- the row of the state follows from some leaves that took the byte, and the marks are those of the others
pub record IsBase (act : Act) (before after : List Bool) (a : PassState) : Type 0 where
  pub root : a.root ≡ act.root
  pub own_leaves : ℕ → Bool
  pub own_row : RowFollows (nodes_of act.way act.prepared.now) act.root act.way.mirrored act.way.all_starts (null_in act.prepared.now.nodes act.kind) own_leaves a.entered a.ended
  pub others : (c : ℕ) → InTree (nodes_of act.way act.prepared.now) act.root c → has_mark before c ≡ (own_leaves c || has_mark after c)

-- Codes.

-- the number is the code of a state of the table of which P is true
pub record NamesState (m : ℕ) (t : Table) (P : PassState → Type 0) (v : ℕ) : Type 0 where
  pub to : ℕ
  pub there : to < t.count
  pub flags : StateFlags
  pub shown : FlagsShow (state_of m t to) flags
  pub code : v ≡ code_of flags (to * 2 ^ t.layout.shift)
  pub is : P (state_of m t to)

-- the cells of a state begin at the offset
abbrev pub IsOffset : Table → ℕ → Type 0
IsOffset t offset = (offset / 2 ^ t.layout.shift < t.count) × (offset ≡ offset / 2 ^ t.layout.shift * 2 ^ t.layout.shift)

-- the state has this root and the row that is being made in the table
abbrev pub HasNewRow : ℕ → Table → ℕ → PassState → Type 0
HasNewRow m t root = HasRow root (state_of m t t.count).entered (state_of m t t.count).ended

-- the state comes after the one whose cells begin at the offset, and this byte, where the text's edge comes after it, or doesn't
abbrev pub IsNext : WrittenExpression → Table → (offset byte : ℕ) → Bool → PassState → Type 0
IsNext e t offset byte edge = LeadsOn e t.way (state_of (length e.nodes) t (offset / 2 ^ t.layout.shift)) byte edge

-- the state is one of the act's root, and the code that of the state to which the byte leads from it, at places of the act's kind
abbrev pub LinksTo : Act → ℕ → Table → ℕ → ℕ → Type 0
LinksTo act byte t q v = let m = length act.prepared.now.nodes in
    (q < t.count) × ((state_of m t q).root ≡ act.root) × NamesState m t (LeadsOn act.prepared.now t.way (state_of m t q) byte (act.kind.begin || act.kind.end)) v

-- Cells.

-- what is in the cell k of a state
abbrev pub cell_of : Table → ℕ → ℕ → ℕ
cell_of t q k = slice_index_or t.cells.items (q * 2 ^ t.layout.shift + k) 0

-- the state is one of the act's root, and the table has in a cell to which state the byte leads from it
abbrev pub KnowsNext : Act → ℕ → Table → ℕ → Type 0
KnowsNext act byte t q = (q < t.count) × (slice_index_or t.roots.items q 0 ≡ act.root) × (0 < cell_of t q (cell_for t.layout byte (act.kind.begin || act.kind.end)))

-- the slot of the index notes the state, in this epoch
abbrev pub Notes : Table → ℕ → ℕ → Type 0
Notes t slot q = (q < t.count) × (slice_index_or t.index.items slot (record { epoch = 0; state = 0 }) ≡ record { epoch = t.epoch % 65536; state = q })

-- each byte of the cell k leads from the state of number q to this one
abbrev pub LeadsBy : WrittenExpression → Table → ℕ → ℕ → PassState → Type 0
LeadsBy e t q k b = (byte : ℕ) (edge : Bool) → byte < 256 → k ≡ cell_for t.layout byte edge →
    LeadsOn e t.way (state_of (length e.nodes) t q) byte edge b

-- Beginnings.

abbrev pub kind_number : Bool → Bool → ℕ
kind_number begin end = from_bool begin + 2 * from_bool end

-- where a beginning is noted; with all starts it is always one of the whole expression
abbrev pub beginning_at : Bool → ℕ → PlaceKind → ℕ
beginning_at true root kind = kind_number kind.begin kind.end
beginning_at false root kind = 4 * root + kind_number kind.begin kind.end

abbrev pub beginning_of : Table → ℕ → Beginning
beginning_of t i = slice_index_or t.beginnings.items i (record { epoch = 0; code = 0 })

-- passes for the node may begin: for any, but with all starts for the root of the expression alone
abbrev pub MayBegin : WrittenExpression → Way → ℕ → Type 0
MayBegin e way root = (root < length e.nodes) × (IsTrue way.all_starts → root ≡ root_of e)

-- Tables.

-- for each state that there is room for: its rows, with so many marks, and its root
pub record HasRows (states marks : ℕ) (all_rows : List (List Bool)) (all_roots : List ℕ) : Type 0 where
  pub some : 2 ≤ states
  pub few : states ≤ 65535
  pub rows : 2 * states + 68 ≤ length all_rows
  pub long : (q : ℕ) → q < length all_rows → length (row_of all_rows q) ≡ marks
  pub roots : length all_roots ≡ states

-- all that a table has is there
pub record HasRoom (m : ℕ) (t : Table) : Type 0 where
  pub count : t.count ≤ t.room
  pub marks : m ≤ t.marks
  pub rows : HasRows t.room t.marks t.rows t.roots.items
  pub cells : t.count * 2 ^ t.layout.shift ≤ length t.cells.items
  pub reserved : t.room * 2 ^ t.layout.shift ≤ vec_capacity t.cells
  pub index : 2 ≤ length t.index.items
  pub begins : (root : ℕ) (kind : PlaceKind) → root < t.marks → beginning_at t.way.all_starts root kind < length t.beginnings.items
  -- no beginning is of a later epoch, nor of one of the last two
  pub past : (i : ℕ) → (beginning_of t i).epoch ≤ t.epoch
  pub early : (i : ℕ) → (beginning_of t i).epoch < 4294967294
  pub links : length t.links.items ≡ t.room

-- the table has all its room for expressions of at most m nodes, however the cells of a state are laid out
abbrev pub IsRoomy : ℕ → Table → Type 0
IsRoomy m t = (layout : Layout) → layout.shift ≤ 8 → 2 ^ layout.shift ≤ 4 * (m + 1) → HasRoom m (record t { layout = layout; count = 0 })

-- a place that is no edge of the text
abbrev pub middle : PlaceKind
middle = record { begin = false; end = false }

-- the row of the state follows where no leaf took a byte, at such a place
abbrev pub IsOrigin : WrittenExpression → Way → PassState → Type 0
IsOrigin e way a = (a.root ≡ root_of e) × RowFollows (nodes_of way e) (root_of e) way.mirrored way.all_starts (null_in e.nodes middle) (λ c. false) a.entered a.ended

-- that state is named, if there is one
abbrev pub HasOrigin : WrittenExpression → Table → Type 0
HasOrigin e t = IfSome t.origin (NamesState (length e.nodes) t (IsOrigin e t.way))

-- of each of these columns of bytes for which that is noted a row shows which leaves take them
abbrev pub HasTakers : WrittenExpression → Table → Type 0
HasTakers e t = (byte : ℕ) → byte < 256 → let column = column_for t.layout byte in
    column < 64 → column < t.layout.filled → IsTrue (slice_index_or t.has_takers column false) → AreTakers (nodes_of t.way e) byte (row_of t.rows (takers_row column))

-- what a table says is right for the expression: of each state, each filled cell, and each beginning of this epoch
pub record IsTable (e : WrittenExpression) (t : Table) : Type 0 where
  pub expr : IsExpr e.nodes e.groups
  pub room : HasRoom (length e.nodes) t
  pub layout : IsLayout e.nodes t.way.mirrored t.layout
  pub roots : (q : ℕ) → q < t.count → (state_of (length e.nodes) t q).root < length e.nodes
  pub filled : (q k : ℕ) → q < t.count → k < cells_in t.layout → 0 < cell_of t q k → NamesState (length e.nodes) t (LeadsBy e t q k) (cell_of t q k)
  pub begun : (root : ℕ) (kind : PlaceKind) → MayBegin e t.way root → (beginning_of t (beginning_at t.way.all_starts root kind)).epoch ≡ t.epoch →
      NamesState (length e.nodes) t (BeginsIn (nodes_of t.way e) t.way root kind) (beginning_of t (beginning_at t.way.all_starts root kind)).code
  pub takers : HasTakers e t
  pub origin : HasOrigin e t

-- what never changes
abbrev pub SameRoom : Table → Table → Type 0
SameRoom old new = (new.way ≡ old.way) × (new.room ≡ old.room) × (new.marks ≡ old.marks) × (vec_capacity new.cells ≡ vec_capacity old.cells)

-- nor does this, while the table serves one expression
abbrev pub SameShape : Table → Table → Type 0
SameShape old new = (new.way ≡ old.way) × (new.room ≡ old.room) × (new.layout ≡ old.layout) × (new.marks ≡ old.marks) × (vec_capacity new.cells ≡ vec_capacity old.cells)

-- a table of passes forwards, each from one start, which keeps the ends of the root alone
pub record IsForwardOne (e : WrittenExpression) (t : Table) : Type 0 where
  pub table : IsTable e t
  pub forwards : t.way.mirrored ≡ false
  pub single : t.way.all_starts ≡ false

-- a state was added at most, and those before stay as they were; or, in another epoch, all were forgotten before, as the table was full
pub record AddsStates (m : ℕ) (old new : Table) : Type 0 where
  pub shape : SameShape old new
  pub grows : new.epoch ≡ old.epoch → (old.count ≤ new.count) × (new.count ≤ old.count + 1)
  pub kept : new.epoch ≡ old.epoch → (q : ℕ) → q < old.count → state_of m new q ≡ state_of m old q
  pub full : old.count < old.room → new.epoch ≡ old.epoch
  pub forgot : (new.epoch ≡ old.epoch → ⊥) → new.count ≤ 1

-- the new table is right, a state was added at most, and the number is the code of a state of which P is true
pub record Codes (e : WrittenExpression) (old new : Table) (P : PassState → Type 0) (v : ℕ) : Type 0 where
  pub table : IsTable e new
  pub adds : AddsStates (length e.nodes) old new
  pub names : NamesState (length e.nodes) new P v
