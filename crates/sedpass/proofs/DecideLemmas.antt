-- The groups that are given as due, as the state of a decision; what nodes and regions cost.
use Rattle.sedpass.proofs.Words.{rules, ◌≡◌, ℕ, zero, suc, ◌+◌, ◌-◌, ◌*◌, ◌<◌, ◌≤◌, ◌&&◌, not, Bool, true, false, List, [], ◌∷◌, length, Option, None, Some, refl, sym, ◌∙◌, arith, IfSome, eqb, replicate, slice_get, slice_set, slice_index_or, vec_capacity, cases_eq, eqb_tells, get_or-set_other, cases_lt, or_cases, expression_tree, size, group_depth, sequence, either_of, grouped, any_copies, one_or_none, ext_get_or, length-set, mul-le-mul_right, Tree, WrittenExpression, tree_at, IsArena, IsExpr, AreRanges, Node, NodeId, Seq, Group, Star, tree_at-node, LastCut, LastCopy, SpansOfGroups, HasSpan, one_start, node_at, Matches-forward, Decided, GroupSet, Matched, Kept, Subject, Facts, spans_in, flags_of, known_groups, HasBlank, IsAtEnd, HasDesk, AreTables, HasSpace, nodes_in, subject_text, NodeMatches, SameSpace, ends_shown, IsFacts, is_one_set, repeated_set, reported, then_some, is_some, holds, IsRunOf, repeated, in_group, IsSetAt, root_of, has_group, settle, IsFirstState, GroupRoom, Tables}
use Rattle.sedpass.proofs.LengthLemmas.{all_long, copies_long, AllLong}
use Rattle.sedpass.proofs.OneGroupLemmas.{copy_spans, set_due}
use Rattle.sedpass.proofs.TurnLemmas.{opened}
use Rattle.sedpass.proofs.TableLemmas.{same_all}

-- an entry of the flags
pub flags_at : (s : GroupSet) (k : ℕ) → slice_index_or (flags_of s) k false ≡ holds s k
flags_at s (suc (suc (suc (suc (suc (suc (suc (suc (suc (suc k)))))))))) = search rules
flags_at s other = refl

-- a node with a group is decided in a region at least, and any lies no deeper than there are nodes beside it
pub depths : (e : Tree) (k : ℕ) → (group_depth e + 1 ≤ size e) × (has_group e k ≡ true → 1 ≤ group_depth e)
depths (sequence a b) k = grind (arith, depths a k, depths b k, or_cases (has_group a k) (has_group b k))
depths (either_of a b) k = grind (arith, depths a k, depths b k, or_cases (has_group a k) (has_group b k))
depths (grouped n a) k = grind (arith, depths a k)
depths (any_copies a first) k = grind (arith, depths a k)
depths (one_or_none a first) k = grind (arith, depths a k)
depths other k = search rules

pub depth_few : (e : WrittenExpression) (groups : ℕ) → IsExpr e.nodes groups → group_depth (expression_tree e) + 1 ≤ length e.nodes
depth_few e groups expr = search (rules, (depths (expression_tree e) 0).0, expr.sizes (root_of e), expr.arena.nonempty)

-- what is due and is not taken is due still
pub flags_left : (old other new : GroupSet) (n : ℕ) (x : Bool) (v : Option (ℕ × ℕ)) → holds old 0 ≡ false → holds other n ≡ (reported n && x) → holds new n ≡ (holds old n && not (holds other n)) →
    slice_index_or (flags_of new) n false ≡ (not (is_some (then_some x v)) && slice_index_or (flags_of old) n false)
flags_left old other new n x v whole is without = grind (arith, cases_eq n 0, flags_at old n, flags_at new n)

-- a span more
found_set : (g : SpansOfGroups) (k : ℕ) (v : Option (ℕ × ℕ)) → spans_in (slice_set g k v) ≤ spans_in g + 1
found_set (x ∷ g) (suc k) v = search (rules, found_set g k v)
found_set g k v = search rules

-- a group that is due is settled
pub settled : (t : Decided) (one new : GroupSet) (k : ℕ) (v : Option (ℕ × ℕ)) → HasBlank t → holds t.due k ≡ true → ((n : ℕ) → holds one n ≡ (reported n && eqb k n)) → ((n : ℕ) → holds new n ≡ (holds t.due n && not (holds one n))) →
    HasBlank (record { due = new; spans = slice_set t.spans k v }) × (known_groups (record { due = new; spans = slice_set t.spans k v }) ≡ settle k v (known_groups t)) × (spans_in (slice_set t.spans k v) ≤ spans_in t.spans + 1)
settled t one new k v before due alone without =
    let flags = ext_get_or false (flags_of new) (slice_set (flags_of t.due) k false) (sym (length-set (flags_of t.due) k false)) (λ n _. flags_left t.due one new n (eqb k n) v before.whole (alone n) (without n) ∙ sym (set_due k n v (flags_of t.due))) in (
      record { blank = λ n. grind (arith, flags_at new n, flags_at t.due n, alone n, without n, before.blank n, eqb_tells k n, get_or-set_other); whole = search (rules, without 0, before.whole) },
      search (rules, flags, flags_at t.due k),
      found_set t.spans k v,
    )

-- to begin with, the groups of the whole expression are due
abbrev pub undecided : Facts → ℕ → ℕ → Decided
undecided facts i j = record { due = facts.groups; spans = Some (i, j) ∷ replicate 9 None }

pub starts_due : (e : Tree) (x i j : ℕ) (facts : Facts) → IsFacts e x facts → IsFirstState e i j (known_groups (undecided facts i j))
starts_due e x i j facts is = record { whole = is.groups 0; each = λ k low high has. search (rules, flags_at facts.groups k, is.groups k); none = refl }

pub starts_blank : (e : Tree) (x i j : ℕ) (facts : Facts) → IsFacts e x facts → HasBlank (undecided facts i j)
starts_blank e x i j facts is = record { blank = λ k due. grind (arith, is.groups 0, cases_eq k 0, same_all {A = Option (ℕ × ℕ)} None 9 (k - 1)); whole = is.groups 0 }

-- Places.

-- a length that is known decides a cut, of the left part or of the right one, and a copy
pub cut_fixed : (s : Subject) (here : Matched) (a b : NodeId) (x n : ℕ) (facts : Facts) → NodeMatches s here (Seq a b) → IsFacts (tree_at (nodes_in s) x) x facts → facts.length ≡ Some n → (
    x ≡ a.index → (here.start + n ≤ length (subject_text s)) × LastCut (HasSpan (nodes_in s) (subject_text s) a.index) (HasSpan (nodes_in s) (subject_text s) b.index) here.start here.stop (here.start + n)
    ) × (x ≡ b.index → (n ≤ here.stop) × LastCut (HasSpan (nodes_in s) (subject_text s) a.index) (HasSpan (nodes_in s) (subject_text s) b.index) here.start here.stop (here.stop - n))
cut_fixed s here a b x n facts stands is decided =
    search (rules, opened s here (Seq a b) stands, all_long (tree_at (nodes_in s) x) (subject_text s) n, Matches-forward (tree_at (nodes_in s) b.index) (subject_text s))

pub copy_fixed : (s : Subject) (here : Matched) (a : NodeId) (first : Bool) (x n : ℕ) (facts : Facts) → NodeMatches s here (Star a first) → here.start < here.stop → x ≡ a.index → IsFacts (tree_at (nodes_in s) x) x facts →
    facts.length ≡ Some n → (n ≤ here.stop) × LastCopy (HasSpan (nodes_in s) (subject_text s) a.index) here.stop here.start (here.stop - n)
copy_fixed s here a first x n facts stands some same is decided =
    let long : AllLong (HasSpan (nodes_in s) (subject_text s) a.index) n = search (rules, all_long (tree_at (nodes_in s) x) (subject_text s) n) in
    search (rules, copy_spans, copies_long _ here.stop n long here.start some (opened s here (Star a first) stands), long (here.stop - n) here.stop)

-- Runs.

abbrev IsRun : List Node → ℕ → ℕ → Type 0
IsRun nodes x c = IsRunOf nodes c x × IsSetAt nodes c

run_within : (n : ℕ) (nodes : List Node) → IsArena nodes → AreRanges nodes → (x c : ℕ) → x < n → x < length nodes → repeated_set (tree_at nodes x) x ≡ Some c → IsRun nodes x c
run_within zero nodes arena ranges x c low inside decided = absurd (omega arith)
run_within (suc n) nodes arena ranges x c low inside decided =
    let there = node_at nodes x inside in
    by (λ y less. run_within n nodes arena ranges y c (omega arith) (omega arith)) there.0 there.1 decided
  where
    by : ((y : ℕ) → y < x → repeated_set (tree_at nodes y) y ≡ Some c → IsRun nodes y c) → (m : Node) → slice_get nodes x ≡ Some m → repeated_set (tree_at nodes x) x ≡ Some c → IsRun nodes x c
    by below (Group k a) is h =
        search (rules, in_group, ranges x (Group k a) is, tree_at-node nodes x (Group k a) arena is, below a.index)
    by below (Star a first) is h =
        let here : (a.index ≡ c) × (is_one_set (tree_at nodes a.index) ≡ true) = search (rules, ranges x (Star a first) is, tree_at-node nodes x (Star a first) arena is) in
        let set = node_at nodes a.index (omega (arith, inside, ranges x (Star a first) is)) in
        (repeated x (a, first, is, here.0), rw (← here.0) (search (rules, here.1, set.1, tree_at-node nodes a.index set.0 arena set.1)))
    by below other is h = search (rules, tree_at-node nodes x other arena is)

pub run_shown : (nodes : List Node) (groups x : ℕ) (facts : Facts) (run : Option ℕ) → IsExpr nodes groups → x < length nodes → IsFacts (tree_at nodes x) x facts → facts.run ≡ run →
    IfSome run (λ c. IsRunOf nodes c x × IsSetAt nodes c)
run_shown nodes groups x facts run expr inside is decided = search (rules, run_within)

-- Regions.

-- the match ends at the one end that a kept pass answers for
pub ends_there : (s : Subject) (tables : Tables) (kept : Kept) (here : Matched) (node : Node) → IsAtEnd s tables kept here node →
    ends_shown tables.reverse_one.way.all_starts kept.region.end ≡ one_start here.stop
ends_there s tables kept here node at = search rules

-- Tables and room that were made.

-- where there is room, groups can be decided
pub has_desk : (s : Subject) (t : Tables) (r : GroupRoom) (text blocks nodes : ℕ) → AreTables s.prepared.now t → HasSpace text blocks nodes r →
    length (subject_text s) ≤ text → length (subject_text s) < blocks * (t.reverse_one.room - 1) → length (nodes_in s) ≤ nodes → HasDesk s t r.kept
has_desk s t r text blocks nodes tables space short cut few = search (rules, mul-le-mul_right, cases_lt)

-- after an expression that it served, there is all the room again
pub space_again : (text blocks nodes : ℕ) (r after : GroupRoom) → HasSpace text blocks nodes r → SameSpace r.kept after.kept → after.tasks.items ≡ [] → vec_capacity r.tasks ≤ vec_capacity after.tasks →
    HasSpace text blocks nodes after
space_again text blocks nodes r after space same none grows = search rules
