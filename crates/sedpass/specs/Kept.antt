-- Private to the proofs: no contract that `sedmatch` makes public cites what is here.
-- What is kept of a pass backwards over a region, and what looks into it may cost.
use Rattle.std.specs.Prelude.{◌≡◌, ℕ, zero, suc, ◌+◌, ◌-◌, ◌*◌, ◌/◌, ◌^◌, ◌<◌, ◌≤◌, ◌↔◌, nat_le, nat_lt, ◌&&◌, Bool, true, if◌then◌else◌, List, length, reverse, slice_index_or, IsTrue, vec_capacity}
use Rattle.sedre.specs.Mirror.{seen}
use Rattle.sedre.specs.declared.types.Node.{Node}
use Rattle.sedtext.specs.Reach.{one_start, starts_to, Starts}
use Rattle.sedtext.specs.Words.{row_of}
use Rattle.sedpass.specs.Regions.{ReachesEnd, MeetsAt}
use Rattle.sedpass.specs.Rows.{bits, RowOfPlace}
use Rattle.sedpass.specs.Table.{PassState, state_of, StateAt, IsOffset, IsTable, MayBegin, SameShape}
use Rattle.sedre.specs.Tree.{WrittenExpression}
use Rattle.sedpass.specs.declared.table.Table.{Table}
use Rattle.sedpass.specs.declared.kept.Region.{Region}
use Rattle.sedpass.specs.declared.kept.Kept.{Kept}

-- What it shows.

-- the places where matches end that a kept pass shows: with all starts all up to the region's end, else that end alone
abbrev pub ends_shown : Bool → ℕ → Starts
ends_shown all_starts end = starts_to (if all_starts then 0 else end) end

-- these places as the starts of the mirrored pass, counted from the end n of the text
abbrev pub starts_shown : Bool → ℕ → ℕ → Starts
starts_shown all_starts n end = starts_to (n - end) (if all_starts then n else n - end)

-- the row is that of the place in the pass, seen from the text's end
abbrev pub RowKept : WrittenExpression → List ℕ → Bool → (root end place : ℕ) → (ℕ → Bool) → (ℕ → Bool) → Type 0
RowKept e w all_starts root end place entered ended =
    RowOfPlace (seen true e).nodes (reverse w) root (starts_shown all_starts (length w) end) true (length w - place) entered ended

-- the state is that of the place in the pass
abbrev pub KeptAt : WrittenExpression → List ℕ → Bool → (root end place : ℕ) → PassState → Type 0
KeptAt e w all_starts root end place a = (a.root ≡ root) × RowKept e w all_starts root end place a.entered a.ended

-- of the places from one up to another: the node x is marked, or isn't, as asked
abbrev pub AllMarked : List Node → List ℕ → ℕ → Starts → ℕ → Bool → ℕ → ℕ → Type 0
AllMarked nodes w r t x marked from to = (q : ℕ) → from ≤ q → q < to → IsTrue marked ↔ ReachesEnd nodes w r t x q

-- What is true of it.

-- the number kept for a place is that of a state which is the place's
abbrev pub IsLive : WrittenExpression → List ℕ → Table → (root end : ℕ) → List ℕ → ℕ → Type 0
IsLive e w t root end states q =
    (slice_index_or states q 0 < t.count) × KeptAt e w t.way.all_starts root end q (state_of (length e.nodes) t (slice_index_or states q 0))

-- the rows kept for a block are that of its right end
abbrev pub IsEdge : WrittenExpression → List ℕ → Bool → (root end : ℕ) → List (List Bool) → (width b : ℕ) → Type 0
IsEdge e w all_starts root end edges width b =
    RowKept e w all_starts root end (b * width + width) (bits (length e.nodes) (row_of edges (2 * b))) (bits (length e.nodes) (row_of edges (2 * b + 1)))

-- there is room for a text of n bytes, cut into blocks of one place less than the table has room for states
pub record KeptRoom (m n : ℕ) (t : Table) (k : Kept) : Type 0 where
  pub mirrored : IsTrue t.way.mirrored
  pub places : n < vec_capacity k.states
  pub blocks : (b : ℕ) → b * (t.room - 1) ≤ n → 2 * b + 1 < length k.edges
  pub marks : (q : ℕ) → q < length k.edges → m ≤ length (row_of k.edges q)

-- a pass over the region may be made
pub record IsRegion (e : WrittenExpression) (w : List ℕ) (t : Table) (k : Kept) : Type 0 where
  pub table : IsTable e t
  pub room : KeptRoom (length e.nodes) (length w) t k
  pub root : MayBegin e t.way k.region.root
  pub whole : IsTrue t.way.all_starts → k.region.end ≡ length w
  pub inside : k.region.end ≤ length w
  pub within : k.region.to ≤ k.region.end

-- the edges of the blocks that end after a place are kept
abbrev pub EdgesFrom : WrittenExpression → List ℕ → Table → Kept → ℕ → Type 0
EdgesFrom e w t k place = (b : ℕ) → place < b * (t.room - 1) + (t.room - 1) → b * (t.room - 1) + (t.room - 1) < k.region.end →
    IsEdge e w t.way.all_starts k.region.root k.region.end k.edges (t.room - 1) b

-- the states of the places from one up to `to` are in the table
abbrev pub LiveFrom : WrittenExpression → List ℕ → Table → Kept → ℕ → Type 0
LiveFrom e w t k place = (q : ℕ) → place ≤ q → q < k.region.to → IsLive e w t k.region.root k.region.end k.states.items q

-- a pass over the region came down to the place, in the state whose cells begin at the offset
pub record PassesDownTo (e : WrittenExpression) (w : List ℕ) (t : Table) (k : Kept) (place offset : ℕ) : Type 0 where
  pub region : IsRegion e w t k
  pub within : place ≤ k.region.end
  pub above : place ≤ k.region.to
  pub long : length w < length k.states.items
  pub there : IsOffset t offset
  pub at : KeptAt e w t.way.all_starts k.region.root k.region.end place (state_of (length e.nodes) t (offset / 2 ^ t.layout.shift))
  pub live : LiveFrom e w t k place

-- the room is the same: the places, and the rows for blocks' ends
pub record SameSpace (old new : Kept) : Type 0 where
  pub places : vec_capacity new.states ≡ vec_capacity old.states
  pub edges : length new.edges ≡ length old.edges
  pub marks : (q : ℕ) → length (row_of new.edges q) ≡ length (row_of old.edges q)

-- the region is the same, and so is the room
pub record SameKept (old new : Kept) : Type 0 where
  pub root : new.region.root ≡ old.region.root
  pub end : new.region.end ≡ old.region.end
  pub space : SameSpace old new

-- from a table and what was kept, a pass came down to the place: all is as it was but for the states, and the place before which they
-- are in the table
pub record ComesDown (e : WrittenExpression) (w : List ℕ) (t t' : Table) (k k' : Kept) (place offset : ℕ) : Type 0 where
  pub passes : PassesDownTo e w t' k' place offset
  pub shape : SameShape t t'
  pub same : SameKept k k'
  pub low : k'.region.low ≡ k.region.low
  pub from : k'.region.from ≡ k.region.from
  pub edges : k'.edges ≡ k.edges

-- what is kept of the region is right
pub record IsKept (e : WrittenExpression) (w : List ℕ) (t : Table) (k : Kept) : Type 0 where
  pub region : IsRegion e w t k
  pub low : k.region.low ≤ k.region.from
  pub from : k.region.from ≤ k.region.end
  pub long : k.region.low < k.region.end → length w < length k.states.items
  pub live : LiveFrom e w t k k.region.from
  pub edges : EdgesFrom e w t k k.region.low

-- the region is kept again, in the same room, and in a table of the same shape
pub record KeepsRegion (e : WrittenExpression) (w : List ℕ) (t t' : Table) (k k' : Kept) : Type 0 where
  pub kept : IsKept e w t' k'
  pub shape : SameShape t t'
  pub same : SameKept k k'

-- What a pass forwards over a node a from the place i is beside it: in the state whose cells begin at the offset.
abbrev pub Follows : WrittenExpression → List ℕ → Table → ℕ → ℕ → ℕ → ℕ → Type 0
Follows e w t a i place offset =
    let q = state_of (length e.nodes) t (offset / 2 ^ t.layout.shift) in
    (q.root ≡ a) × StateAt e.nodes w (one_start i) t.way.mirrored place q

-- the two meet at each place from one up to another
abbrev pub Meet : WrittenExpression → List ℕ → Table → Kept → ℕ → ℕ → ℕ → ℕ → Type 0
Meet e w t k a i from to = (q : ℕ) → from ≤ q → q < to →
    MeetsAt e.nodes w k.region.root (ends_shown t.way.all_starts k.region.end) a (one_start i) q

-- What it may cost.

-- the first place from one on of which the state isn't in the table
abbrev pub due_place : Region → ℕ → ℕ
due_place r place = if nat_le r.from place && nat_lt place r.to then r.to else place

-- the steps that it takes to make so many places again, each once, in blocks of one place at least
abbrev pub again : ℕ → ℕ → ℕ
again m zero = 0
again m (suc places) = 59 * m * (suc places) + 13 * m

-- the steps that looks into the region from a place on may take: to make what isn't made yet, of which a place at least is then in the
-- table, and each of the others once again
abbrev pub owed_region : ℕ → Region → ℕ → ℕ
owed_region m r place = if nat_lt place r.low then 100 * m * (r.end - place) else again m (r.end - due_place r place)
