-- Private to the proofs: no contract that `sedmatch` makes public cites what is here.
-- What a row shows of a place, how the marks at a place follow from what the leaves took, and when one row leads to another.
use Rattle.std.specs.Prelude.{◌≡◌, ◌≢◌, ℕ, ◌+◌, ◌-◌, ◌*◌, ◌≤◌, ◌<◌, ◌⊎◌, ◌↔◌, Bool, true, false, ◌&&◌, ◌||◌, if◌then◌else◌, eqb, List, length, slice_get, slice_index_or, Option, Some, None, IsTrue, nat_lt, nat_le}
use Rattle.sedre.specs.Arena.{IsPart}
use Rattle.sedre.specs.Tree.{WrittenExpression}
use Rattle.sedre.specs.Mirror.{seen}
use Rattle.sedre.specs.declared.types.Node.{Node}
use Rattle.sedre.specs.declared.types.Node.TheVariants.{Set, Seq, Alt, Group, Star, Opt}
use Rattle.sedtext.specs.Reach.{Starts, HasSpan, Enters}
use Rattle.sedtext.specs.Matching.{byte_is_in}
use Rattle.sedtext.specs.Places.{IsPlace}
use Rattle.sedtext.specs.Words.{row_of}
use Rattle.sedpass.specs.Regions.{EndsPastIn, IsSetAt}
use Rattle.sedpass.specs.declared.nodes.PlaceKind.{PlaceKind}
use Rattle.sedpass.specs.declared.rows.Way.{Way}

-- the last node, which is the whole expression
abbrev pub root_of : WrittenExpression → ℕ
root_of e = length e.nodes - 1

-- the nodes that a pass of the way sees
abbrev pub nodes_of : Way → WrittenExpression → List Node
nodes_of way e = (seen way.mirrored e).nodes

-- whether places of the kind are the beginning, and the end, of the text as a pass sees it, mirrored or not
abbrev pub at_begin : Bool → PlaceKind → Bool
at_begin true kind = kind.end
at_begin false kind = kind.begin

abbrev pub at_edge : Bool → PlaceKind → Bool
at_edge true kind = kind.begin
at_edge false kind = kind.end

-- the row of the leaves that take bytes of a column, of the first 64; before them are two rows for acts
abbrev pub takers_row : ℕ → ℕ
takers_row column = column + 2

-- the rows of marks of a state: the leaves entered, and the nodes that end there
abbrev pub leaves_row : ℕ → ℕ
leaves_row q = 2 * q + 66

abbrev pub ends_row : ℕ → ℕ
ends_row q = 2 * q + 67

-- there are rows for the states up to the number, each of m marks or more
abbrev pub AreWide : ℕ → ℕ → List (List Bool) → Type 0
AreWide m state rows = (state ≤ 65536) × (ends_row state < length rows) × ((q : ℕ) → q < length rows → m ≤ length (row_of rows q))

-- the row is none of the first `few`, and not of the state
abbrev pub IsApart : ℕ → ℕ → ℕ → Type 0
IsApart few state q = (few ≤ q) × (q ≢ leaves_row state) × (q ≢ ends_row state)

-- the first m of the marks
abbrev pub bits : ℕ → List Bool → ℕ → Bool
bits m marks c = nat_lt c m && slice_index_or marks c false

-- the leaf could begin one byte before the place, and its set has that byte
abbrev pub Took : List Node → List ℕ → ℕ → Starts → ℕ → ℕ → List Bool → Type 0
Took nodes w r s j x members = (i : ℕ) × (i + 1 ≡ j) × Enters nodes w r s x i × IsTrue (byte_is_in (slice_get w i) members)

-- the two bytes are in the same sets
abbrev pub SameBytes : List Node → Option ℕ → Option ℕ → Type 0
SameBytes nodes a b = (x : ℕ) (members : List Bool) → slice_get nodes x ≡ Some (Set members) → byte_is_in a members ≡ byte_is_in b members

-- x is the node r or is in it
pub data InTree (nodes : List Node) (r : ℕ) : ℕ → Type 0 where
  is_tree : (x : ℕ) → x ≡ r → InTree nodes r x
  part_of : (y c : ℕ) (node : Node) → slice_get nodes y ≡ Some node → IsPart node c → InTree nodes r y → InTree nodes r c

-- the nodes in r are those from low to r
abbrev pub IsNodeRange : List Node → ℕ → ℕ → Type 0
IsNodeRange nodes low r = (c : ℕ) → ((low ≤ c) × (c ≤ r)) ↔ InTree nodes r c

-- null says which nodes are null at the place
abbrev pub AreNull : List Node → List ℕ → ℕ → (ℕ → Bool) → Type 0
AreNull nodes w p null = (c : ℕ) → c < length nodes → IsTrue (null c) ↔ HasSpan nodes w c p p

-- which leaves were entered shows, with the byte that came, which in r took it
abbrev pub ShowTook : List Node → List ℕ → ℕ → Starts → ℕ → Option ℕ → (ℕ → Bool) → Type 0
ShowTook nodes w r s p byte entered = (c : ℕ) (members : List Bool) → InTree nodes r c → slice_get nodes c ≡ Some (Set members) →
    IsTrue (entered c && byte_is_in byte members) ↔ Took nodes w r s p c members

-- the mark of a node that ends with a byte
abbrev pub ended_by : (List Bool → Bool) → (ℕ → Bool) → (ℕ → Bool) → Node → Bool
ended_by took null ended (Set members) = took members
ended_by took null ended (Seq a b) = ended b.index || (ended a.index && null b.index)
ended_by took null ended (Alt a b) = ended a.index || ended b.index
ended_by took null ended (Group k a) = ended a.index
ended_by took null ended (Star a first) = ended a.index
ended_by took null ended (Opt a first) = ended a.index
ended_by took null ended other = false

-- whether the part c of a node begins at a place: `here` says whether the node begins there
abbrev pub entered_by : Bool → (ℕ → Bool) → (ℕ → Bool) → Node → ℕ → Bool
entered_by here null ended (Seq a b) c = if eqb c a.index then here else ended a.index || (here && null a.index)
entered_by here null ended (Star a first) c = here || ended a.index
entered_by here null ended other c = here

-- the mark of the number c
abbrev pub has_mark : List Bool → ℕ → Bool
has_mark marks c = slice_index_or marks c false

-- the marks after are those before, and those of P
abbrev pub AddsMarks : List Bool → List Bool → (ℕ → Type 0) → Type 0
AddsMarks before after P = (c : ℕ) → IsTrue (has_mark after c) ↔ (IsTrue (has_mark before c) ⊎ P c)

-- the mark is set in both, and not in the first
abbrev pub Lacks : List Bool → List Bool → List Bool → ℕ → ℕ → Type 0
Lacks first one other count c = (c < count) × (has_mark first c ≡ false) × IsTrue (has_mark one c) × IsTrue (has_mark other c)

-- the parts of a node that begin where it does
abbrev pub StartsWith : (ℕ → Bool) → Node → ℕ → Type 0
StartsWith null node c = IsPart node c × IsTrue (entered_by true null (λ n. false) node c)

-- those that begin where its part y ends, and whether it ends there itself
abbrev pub StartsAfter : (ℕ → Bool) → Node → ℕ → ℕ → Type 0
StartsAfter null node y c = IsPart node c × IsTrue (entered_by false null (λ n. eqb n y) node c)

abbrev pub EndsAfter : (ℕ → Bool) → Node → ℕ → Type 0
EndsAfter null node y = IsTrue (ended_by (λ members. false) null (λ n. eqb n y) node)

-- the node is a leaf whose set has the byte
abbrev pub TakenBy : Option ℕ → Node → Type 0
TakenBy byte node = (members : List Bool) × (node ≡ Set members) × IsTrue (byte_is_in byte members)

-- the marks show which leaves take the byte
abbrev pub AreTakers : List Node → ℕ → List Bool → Type 0
AreTakers nodes byte marks = (c : ℕ) (node : Node) → slice_get nodes c ≡ Some node → IsTrue (has_mark marks c) ↔ TakenBy (Some byte) node

-- the marks show which leaves in r took the byte: those entered whose set has it
abbrev pub TookBy : List Node → ℕ → (ℕ → Bool) → Option ℕ → (ℕ → Bool) → Type 0
TookBy nodes r entered byte took = (c : ℕ) (node : Node) → InTree nodes r c → slice_get nodes c ≡ Some node → IsTrue (took c) ↔ (IsTrue (entered c) × TakenBy byte node)

-- only leaves in r are marked
abbrev pub MarkLeaves : List Node → ℕ → List Bool → Type 0
MarkLeaves nodes r marks = (c : ℕ) → c < length nodes → IsTrue (has_mark marks c) → InTree nodes r c × IsSetAt nodes c

-- Nodes in r are marked only if they took the byte or their parts say so; and if they did, or their parts below y say so, they are.
pub record EndsUpTo (nodes : List Node) (r : ℕ) (took null : ℕ → Bool) (ended : List Bool) (y : ℕ) : Type 0 where
  pub inside : (x : ℕ) → x < length nodes → IsTrue (has_mark ended x) → InTree nodes r x
  pub just : (x : ℕ) (node : Node) → slice_get nodes x ≡ Some node → IsTrue (has_mark ended x) → IsTrue (ended_by (λ members. took x) null (has_mark ended) node)
  pub closed : (x : ℕ) (node : Node) → InTree nodes r x → slice_get nodes x ≡ Some node → IsTrue (ended_by (λ members. took x) null (λ c. nat_lt c y && has_mark ended c) node) → IsTrue (has_mark ended x)

-- Parts in r are marked only if their nodes say so; and if nodes from y on do, or parts that ended below z, they are.
pub record EntersDownTo (nodes : List Node) (r : ℕ) (first : Bool) (null : ℕ → Bool) (ended entered : List Bool) (y z : ℕ) : Type 0 where
  pub inside : (c : ℕ) → c < length nodes → IsTrue (has_mark entered c) → InTree nodes r c
  pub root : has_mark entered r ≡ first
  pub just : (x c : ℕ) (node : Node) → InTree nodes r x → slice_get nodes x ≡ Some node → IsPart node c → IsTrue (has_mark entered c) → IsTrue (entered_by (has_mark entered x) null (has_mark ended) node c)
  pub closed : (x c : ℕ) (node : Node) → InTree nodes r x → slice_get nodes x ≡ Some node → IsPart node c →
      IsTrue (entered_by (nat_le y x && has_mark entered x) null (λ n. nat_lt n z && has_mark ended n) node c) → IsTrue (has_mark entered c)

-- the node is a leaf that is entered at the place
abbrev pub LeafAt : List Node → List ℕ → ℕ → Starts → ℕ → ℕ → Type 0
LeafAt nodes w r s p c = (members : List Bool) × (slice_get nodes c ≡ Some (Set members)) × Enters nodes w r s c p

-- the node has ended at the place: any in r where the row keeps them, else r alone
abbrev pub EndKept : List Node → List ℕ → ℕ → Starts → Bool → ℕ → ℕ → Type 0
EndKept nodes w r s keeps p c = (IsTrue keeps ⊎ (c ≡ r)) × EndsPastIn nodes w r s c p

-- the row of the place: which leaves are entered there, and which nodes have ended
pub record RowOfPlace (nodes : List Node) (w : List ℕ) (r : ℕ) (s : Starts) (keeps : Bool) (p : ℕ) (entered ended : ℕ → Bool) : Type 0 where
  pub leaves : (c : ℕ) → IsTrue (entered c) ↔ LeafAt nodes w r s p c
  pub ends : (c : ℕ) → IsTrue (ended c) ↔ EndKept nodes w r s keeps p c

-- The row of a place as it follows from which leaves took the byte, and from whether the root begins there: nodes end as their parts
-- do, and parts begin as their nodes do, or where others end. Null strings are as `null` says.
pub record RowFollows (nodes : List Node) (r : ℕ) (keeps first : Bool) (null took entered ended : ℕ → Bool) : Type 0 where
  pub begins : ℕ → Bool
  pub ends : ℕ → Bool
  pub root : begins r ≡ first
  pub down : (x c : ℕ) (node : Node) → InTree nodes r x → slice_get nodes x ≡ Some node → IsPart node c → begins c ≡ entered_by (begins x) null ends node c
  pub up : (x : ℕ) (node : Node) → InTree nodes r x → slice_get nodes x ≡ Some node → ends x ≡ ended_by (λ members. took x) null ends node
  pub leaves : (c : ℕ) → IsTrue (entered c) ↔ (InTree nodes r c × IsTrue (begins c) × IsSetAt nodes c)
  pub ended_is : (c : ℕ) → IsTrue (ended c) ↔ (InTree nodes r c × (((IsTrue keeps ⊎ (c ≡ r)) × IsTrue (ends c)) ⊎ ((c ≡ r) × IsTrue first × IsTrue (null r))))

-- the row follows where the leaves before were entered, and this byte came
abbrev pub RowLeadsTo : List Node → ℕ → Bool → (ℕ → Bool) → (ℕ → Bool) → Option ℕ → Bool → (ℕ → Bool) → (ℕ → Bool) → Type 0
RowLeadsTo nodes r keeps null before byte first entered ended = (took : ℕ → Bool) × TookBy nodes r before byte took × RowFollows nodes r keeps first null took entered ended

-- the marks of a row of the state of that number, or none where there is none
abbrev pub marks_of : Option ℕ → (ℕ → ℕ) → List (List Bool) → ℕ → Bool
marks_of None row rows c = false
marks_of (Some q) row rows c = has_mark (row_of rows (row q)) c

-- a pass from a place of the kind begins with the row
abbrev pub IsFirstRow : List Node → ℕ → Bool → Bool → Bool → (ℕ → Bool) → (ℕ → Bool) → Type 0
IsFirstRow nodes r keeps begin end entered ended = (w : List ℕ) (s : Starts) → IsPlace w s.first begin end → s.first ≤ s.last → RowOfPlace nodes w r s keeps s.first entered ended
