-- Private to the proofs: no contract that the engine sees cites what is here.
-- What is known of a match's groups while they are decided from its end, what is left to do, and what that costs.
use Rattle.std.specs.Prelude.{◌≡◌, ℕ, zero, suc, ◌+◌, ◌-◌, ◌*◌, ◌<◌, ◌≤◌, ◌⊎◌, Bool, true, false, IsTrue, List, [], ◌∷◌, ◌++◌, length, min, slice_get, slice_index_or, vec_capacity, IfSome, Option, None, Some}
use Rattle.std.specs.List.{AllByRecursion}
use Rattle.sedre.specs.Arena.{IsArena}
use Rattle.sedre.specs.Tree.{size, tree_at, WrittenExpression}
use Rattle.sedre.specs.Steps.{TakesAtLeast, CostsWithin}
use Rattle.sedre.specs.declared.types.Node.{Node}
use Rattle.sedre.specs.declared.types.Node.TheVariants.{Seq, Alt, Star}
use Rattle.sedre.specs.declared.types.NodeId.{NodeId}
use Rattle.sedtext.specs.Caps.{LastCopy}
use Rattle.sedtext.specs.Groups.{SpansOfGroups, group_depth}
use Rattle.sedtext.specs.Nodes.{parts_of}
use Rattle.sedtext.specs.Reach.{HasSpan}
use Rattle.sedtext.specs.Words.{row_of}
use Rattle.sedpass.specs.Prepared.{holds, length_of}
use Rattle.sedpass.specs.Kept.{IsKept, KeptRoom, SameSpace, owed_region}
use Rattle.sedpass.specs.Regions.{IsLastIn}
use Rattle.sedpass.specs.Table.{IsForwardOne, IsRoomy, IsTable, SameRoom, SameShape}
use Rattle.sedpass.specs.Walks.{GroupState, is_due, drop_groups, WalkEnters}
use Rattle.sedpass.specs.declared.group_set.GroupSet.{GroupSet}
use Rattle.sedpass.specs.declared.groups.GroupRoom.{GroupRoom}
use Rattle.sedpass.specs.declared.groups.Tables.{Tables}
use Rattle.sedpass.specs.declared.groups.Matched.{Matched}
use Rattle.sedpass.specs.declared.groups.GroupTask.{GroupTask}
use Rattle.sedpass.specs.declared.groups.GroupTask.TheVariants.{Apart, Forget}
use Rattle.sedpass.specs.declared.groups.Then.{Then}
use Rattle.sedpass.specs.declared.groups.Then.TheVariants.{Done, One, Two}
use Rattle.sedpass.specs.declared.groups.Decided.{Decided}
use Rattle.sedpass.specs.declared.kept.Kept.{Kept}
use Rattle.sedpass.specs.declared.kept.Region.{Region}
use Rattle.sedpass.specs.declared.kept.Subject.{Subject}

-- which of the entries 0 to 9 are in the set
abbrev pub flags_of : GroupSet → List Bool
flags_of s = holds s 0 ∷ holds s 1 ∷ holds s 2 ∷ holds s 3 ∷ holds s 4 ∷ holds s 5 ∷ holds s 6 ∷ holds s 7 ∷ holds s 8 ∷ holds s 9 ∷ []

-- which groups are due, and the spans of those that aren't
abbrev pub known_groups : Decided → GroupState
known_groups t = record { due = flags_of t.due; spans = t.spans }

-- what is due has no span so far
abbrev pub NoneSettled : GroupState → Type 0
NoneSettled s = (k : ℕ) → is_due s k ≡ true → slice_index_or s.spans k None ≡ None

-- and the whole match isn't due
pub record HasBlank (t : Decided) : Type 0 where
  pub blank : NoneSettled (known_groups t)
  pub whole : holds t.due 0 ≡ false

-- how many entries have a span
abbrev pub spans_in : SpansOfGroups → ℕ
spans_in [] = 0
spans_in (None ∷ g) = spans_in g
spans_in (Some span ∷ g) = 1 + spans_in g

-- the nodes of the expression, and the text
abbrev pub nodes_in : Subject → List Node
nodes_in s = s.prepared.now.nodes

abbrev pub subject_text : Subject → List ℕ
subject_text s = s.text.now

-- the node matches its span, within the text
pub record IsMatch (nodes : List Node) (w : List ℕ) (here : Matched) : Type 0 where
  pub inside : here.node < length nodes
  pub up : here.start ≤ here.stop
  pub fits : here.stop ≤ length w
  pub at : HasSpan nodes w here.node here.start here.stop

-- the match is there, and what its node is
pub record NodeMatches (s : Subject) (here : Matched) (node : Node) : Type 0 where
  pub arena : IsArena (nodes_in s)
  pub is : slice_get (nodes_in s) here.node ≡ Some node
  pub there : IsMatch (nodes_in s) (subject_text s) here

-- the tasks, the first one first, bring the state `old` to the state `new`, and enter n nodes
abbrev pub RunsTasks : List Node → List ℕ → List GroupTask → GroupState → GroupState → ℕ → Type 0
RunsTasks nodes w [] old new n = (new ≡ old) × (n ≡ 0)
RunsTasks nodes w (Apart here ∷ tasks) old new n =
    (mid : GroupState) × (p : ℕ) × (q : ℕ) × WalkEnters (tree_at nodes here.node) w here.start here.stop old mid p × RunsTasks nodes w tasks mid new q × (n ≡ p + q)
RunsTasks nodes w (Forget x ∷ tasks) old new n = RunsTasks nodes w tasks (drop_groups (tree_at nodes x) old) new n

-- the node is there, and one to be decided matches its span within the text
abbrev pub IsTaskReady : List Node → List ℕ → GroupTask → Type 0
IsTaskReady nodes w (Apart here) = IsMatch nodes w here
IsTaskReady nodes w (Forget x) = x < length nodes

-- how many tasks can still come of these
abbrev pub weights : List Node → List GroupTask → ℕ
weights nodes [] = 0
weights nodes (Apart here ∷ tasks) = 2 * size (tree_at nodes here.node) + weights nodes tasks
weights nodes (Forget x ∷ tasks) = 1 + weights nodes tasks

-- so many nodes were entered: those tasks that are left bring the new state to where all bring the old one
abbrev pub Continues : List Node → List ℕ → List GroupTask → GroupState → List GroupTask → GroupState → ℕ → Type 0
Continues nodes w tasks old rest new n = (f : GroupState) (m : ℕ) → RunsTasks nodes w rest new f m → RunsTasks nodes w tasks old f (n + m)

-- what comes in place of a node, the first task first
abbrev pub tasks_after : Then → List GroupTask
tasks_after Done = []
tasks_after (One next) = Apart next ∷ []
tasks_after (Two next later) = Apart next ∷ later ∷ []

-- a turn at the match enters n nodes: this comes in its place, and the state is the new one
pub record IsTurn (s : Subject) (here : Matched) (old new : GroupState) (then : Then) (n : ℕ) : Type 0 where
  pub run : (rest : List GroupTask) → Continues (nodes_in s) (subject_text s) (Apart here ∷ rest) old (tasks_after then ++ rest) new n
  pub ready : AllByRecursion (IsTaskReady (nodes_in s) (subject_text s)) (tasks_after then)
  pub less : weights (nodes_in s) (tasks_after then) + 1 ≤ 2 * size (tree_at (nodes_in s) here.node)

-- how many nodes a turn enters: itself, unless it has no part
abbrev pub entered_at : Node → ℕ
entered_at node = min 1 (length (parts_of node))

-- the node is last in the region, and its match ends where the region does
abbrev pub EndsRegion : Subject → Region → Matched → Type 0
EndsRegion s r here = IsLastIn (nodes_in s) r.root here.node × (here.stop ≡ r.end)

-- two of the tables serve the expression: the kept one for passes backwards from one end, the other for passes forwards from one start
pub record HasDesk (s : Subject) (tables : Tables) (kept : Kept) : Type 0 where
  pub reverse_one : IsTable s.prepared.now tables.reverse_one
  pub places : KeptRoom (length s.prepared.now.nodes) (length s.text.now) tables.reverse_one kept
  pub one_end : tables.reverse_one.way.all_starts ≡ false
  pub forward_part : IsForwardOne s.prepared.now tables.forward_part

-- and the region is kept
pub record IsGroupDesk (s : Subject) (tables : Tables) (kept : Kept) : Type 0 where
  pub region : IsKept s.prepared.now s.text.now tables.reverse_one kept
  pub one_end : tables.reverse_one.way.all_starts ≡ false
  pub forward_part : IsForwardOne s.prepared.now tables.forward_part

-- the match of the node is there, and ends where the region does that is kept
pub record IsAtEnd (s : Subject) (tables : Tables) (kept : Kept) (here : Matched) (node : Node) : Type 0 where
  pub stands : NodeMatches s here node
  pub ends : EndsRegion s kept.region here
  pub desk : IsGroupDesk s tables kept

-- the way of each of the tables
pub record HaveWays (t : Tables) : Type 0 where
  pub forward_any : t.forward_any.way ≡ record { mirrored = false; all_starts = true }
  pub reverse_one : t.reverse_one.way ≡ record { mirrored = true; all_starts = false }
  pub forward_one : t.forward_one.way ≡ record { mirrored = false; all_starts = false }
  pub forward_part : t.forward_part.way ≡ record { mirrored = false; all_starts = false }

-- the tables serve the expression
pub record AreTables (e : WrittenExpression) (t : Tables) : Type 0 where
  pub ways : HaveWays t
  pub forward_any : IsTable e t.forward_any
  pub reverse_one : IsTable e t.reverse_one
  pub forward_one : IsTable e t.forward_one
  pub forward_part : IsTable e t.forward_part

-- they have all their room for expressions of at most m nodes
pub record AreRoomy (m : ℕ) (t : Tables) : Type 0 where
  pub ways : HaveWays t
  pub forward_any : IsRoomy m t.forward_any
  pub reverse_one : IsRoomy m t.reverse_one
  pub forward_one : IsRoomy m t.forward_one
  pub forward_part : IsRoomy m t.forward_part

-- there is room for texts of so many bytes, cut into so many blocks, and for expressions of so many nodes, and no task waits
pub record HasSpace (text blocks nodes : ℕ) (r : GroupRoom) : Type 0 where
  pub places : text < vec_capacity r.kept.states
  pub edges : length r.kept.edges ≡ 2 * blocks
  pub marks : (q : ℕ) → q < length r.kept.edges → length (row_of r.kept.edges q) ≡ nodes
  pub none : r.tasks.items ≡ []
  pub tasks : 2 * nodes ≤ vec_capacity r.tasks

-- each of the tables has the room that it had, whatever it serves
pub record SameRooms (old new : Tables) : Type 0 where
  pub forward_any : SameRoom old.forward_any new.forward_any
  pub reverse_one : SameRoom old.reverse_one new.reverse_one
  pub forward_one : SameRoom old.forward_one new.forward_one
  pub forward_part : SameRoom old.forward_part new.forward_part

-- each of those that decide groups has the room that it had, and the others are as they were
pub record SameTables (old new : Tables) : Type 0 where
  pub forward_any : new.forward_any ≡ old.forward_any
  pub forward_one : new.forward_one ≡ old.forward_one
  pub reverse_one : SameShape old.reverse_one new.reverse_one
  pub forward_part : SameShape old.forward_part new.forward_part

-- a region is kept again, in the same room
pub record KeepsGroupDesk (s : Subject) (old new : Tables) (before after : Kept) : Type 0 where
  pub desk : IsGroupDesk s new after
  pub shape : SameTables old new
  pub space : SameSpace before after

-- groups can be decided again, in the same room
pub record KeepsGroupRoom (s : Subject) (old new : Tables) (before after : GroupRoom) : Type 0 where
  pub desk : HasDesk s new after.kept
  pub shape : SameTables old new
  pub space : SameSpace before.kept after.kept
  pub tasks : vec_capacity before.tasks ≤ vec_capacity after.tasks

-- which match comes first in place of a node
abbrev pub next_of : Then → Option Matched
next_of Done = None
next_of (One next) = Some next
next_of (Two next later) = Some next

-- the matches of the node have no length that is known
abbrev pub HasNoKnownLength : List Node → ℕ → Type 0
HasNoKnownLength nodes x = length_of (tree_at nodes x) ≡ None

-- the looks that a node takes at least, by its kind: at each byte that it passes, where no length decides it, and at an alternative
abbrev pub LooksAt : Subject → Matched → Node → Option Matched → ℕ → ℕ → Type 0
LooksAt s here (Seq a b) next before after =
    HasNoKnownLength (nodes_in s) a.index → HasNoKnownLength (nodes_in s) b.index → IfSome next (λ p. TakesAtLeast before after (p.start - here.start))
LooksAt s here (Alt a b) next before after = TakesAtLeast before after 1
LooksAt s here (Star a first) next before after = HasNoKnownLength (nodes_in s) a.index → TakesAtLeast before after (here.stop - here.start)
LooksAt s here node next before after = Unit {0}

-- the last copy of the part in a match of a repetition begins there, or is an empty one; or there is none
abbrev pub IsCopyFrom : Subject → Matched → NodeId → Bool → Option ℕ → Type 0
IsCopyFrom s here a first (Some c) =
    ((here.start < here.stop) × LastCopy (HasSpan (nodes_in s) (subject_text s) a.index) here.stop here.start c)
    ⊎ ((here.start ≡ here.stop) × (IsTrue first × HasSpan (nodes_in s) (subject_text s) a.index here.start here.start) × (c ≡ here.start))
IsCopyFrom s here a first None = (here.start ≡ here.stop) × ((IsTrue first × HasSpan (nodes_in s) (subject_text s) a.index here.start here.start) → ⊥)

-- the steps that are left to decide groups in a region of m nodes, for a match of so many bytes and so deep: those of parts apart, those of
-- cuts and copies, and those of looks into the region
abbrev pub region_cost : (m depth long owed : ℕ) → ℕ
region_cost m zero long owed = 0
region_cost m (suc depth) long owed = 172 * m * depth * long + 72 * m * long + owed

-- those of a match in a region, and two for each node
abbrev pub match_cost : List Node → Region → Matched → ℕ
match_cost nodes r here =
    let e = tree_at nodes here.node in
    let m = length nodes in
    region_cost m (group_depth e) (here.stop - here.start) (owed_region m r here.start) + 2 * size e

-- those of a task, which has a region of its own
abbrev pub task_cost : List Node → GroupTask → ℕ
task_cost nodes (Apart here) =
    let e = tree_at nodes here.node in
    172 * length nodes * group_depth e * (here.stop - here.start) + 2 * size e
task_cost nodes (Forget x) = 0

abbrev pub tasks_cost : List Node → List GroupTask → ℕ
tasks_cost nodes [] = 0
tasks_cost nodes (task ∷ tasks) = task_cost nodes task + tasks_cost nodes tasks

-- those of what comes in place of a node, in the region as it is then, and more
abbrev pub then_cost : List Node → Region → Then → ℕ → ℕ
then_cost nodes r Done more = more
then_cost nodes r (One next) more = match_cost nodes r next + more
then_cost nodes r (Two next later) more = match_cost nodes r next + (task_cost nodes later + more)

-- A turn at a match of the node enters it, unless it has no part: this comes in its place, the first match in the region; what it costs, a
-- step less than the node has where a group lies in it, and what was looked at.
pub record NodeTurned (s : Subject) (here : Matched) (node : Node) (old new : GroupState) (r r' : Region) (then : Then) (before after : ℕ) : Type 0 where
  pub turn : IsTurn s here old new then (entered_at node)
  pub goes : IfSome (next_of then) (EndsRegion s r')
  pub cost : 1 ≤ group_depth (tree_at (nodes_in s) here.node) → CostsWithin before after (match_cost (nodes_in s) r here) (then_cost (nodes_in s) r' then 1)
  pub looks : LooksAt s here node (next_of then) before after

-- The tasks are done as far as those left, which are ready, and of which d fewer can still come: what is known then, how much of the
-- steps to be paid is owed still, and n nodes that were entered, each of which was looked at.
pub record Works (s : Subject) (tasks : List GroupTask) (old : Decided) (rest : List GroupTask) (new : Decided) (d paid owed before after : ℕ) : Type 0 where
  pub decided : HasBlank new
  pub ready : AllByRecursion (IsTaskReady (nodes_in s) (subject_text s)) rest
  pub less : weights (nodes_in s) rest + d ≤ weights (nodes_in s) tasks
  pub spent : CostsWithin before after paid owed
  pub n : ℕ
  pub run : Continues (nodes_in s) (subject_text s) tasks (known_groups old) rest (known_groups new) n
  pub entered : TakesAtLeast before after n
  pub counts : TakesAtLeast before after (spans_in new.spans - spans_in old.spans)
