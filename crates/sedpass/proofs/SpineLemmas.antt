-- What holds while a spine is followed from node to node, and while tasks wait.
use Rattle.sedpass.proofs.Words.{rules, ◌≡◌, ℕ, ◌+◌, ◌-◌, ◌≤◌, List, [], ◌∷◌, ◌++◌, ◌&&◌, not, length, reverse, sym, ap, ◌∙◌, arith, AllByRecursion, length-reverse, reverse-append, tree_at, Node, size-pos, GroupSet, Matched, GroupTask, Apart, Forget, Done, One, Two, Decided, Facts, Region, Subject, and_parts, cases_Bool, cases_eq, drop_groups, ext_get_or, false, flags_of, IsTrue, CostsWithin, Takes, IsCounted, TakesAtLeast, known_groups, spans_in, HasBlank, NoneSettled, IsTurn, NodeTurned, Works, match_cost, tasks_cost, then_cost, nodes_in, subject_text, weights, tasks_after, entered_at, IsTaskReady, IsFacts, holds, NoneDue, Then}
use Rattle.sedpass.proofs.DecideLemmas.{depths, flags_at, flags_left}
use Rattle.sedpass.proofs.OneGroupLemmas.{drop_spans, drops, passes_by}

-- Tasks that are done.

pub works_none : (s : Subject) (tasks : List GroupTask) (decided : Decided) (paid owed steps : ℕ) → owed ≤ paid → HasBlank decided → AllByRecursion (IsTaskReady (nodes_in s) (subject_text s)) tasks →
    Works s tasks decided tasks decided 0 paid owed steps steps
unfolding IsCounted TakesAtLeast
works_none s tasks decided paid owed steps less is ready = search rules

pub works_then : (s : Subject) (t0 t1 t2 : List GroupTask) (a b c : Decided) (d e n u v paid x y z : ℕ) → n ≤ d + e → Works s t0 a t1 b d u v x y → Works s t1 b t2 c e v paid y z → Works s t0 a t2 c n u paid x z
unfolding IsCounted TakesAtLeast
works_then s t0 t1 t2 a b c d e n u v paid x y z few one two = record {
  decided = two.decided;
  ready = two.ready;
  less = search rules;
  spent = search (rules, one.spent, two.spent);
  n = one.n + two.n;
  run = λ f m run. search (rules, one.run f (two.n + m) (two.run f m run));
  entered = search rules;
  counts = search rules;
}

-- groups are forgotten
pub works_forget : (s : Subject) (x : ℕ) (rest : List GroupTask) (facts : Facts) (due : GroupSet) (old : Decided) (steps : ℕ) → AllByRecursion (IsTaskReady (nodes_in s) (subject_text s)) (Forget x ∷ rest) → HasBlank old →
    IsFacts (tree_at (nodes_in s) x) x facts → ((n : ℕ) → holds due n ≡ (holds old.due n && not (holds facts.groups n))) →
    Works s (Forget x ∷ rest) old rest (record old { due = due }) 1 (tasks_cost (nodes_in s) (Forget x ∷ rest)) (tasks_cost (nodes_in s) rest) steps steps
unfolding IsCounted TakesAtLeast
works_forget s x rest facts due old steps ready decided is without =
    let e = tree_at (nodes_in s) x in
    let state = known_groups old in
    let flags = ext_get_or false (flags_of due) (drop_groups e state).due (sym ((drops e 0 []).1 state).long) (λ k _. flags_left old.due facts.groups due k _ _ decided.whole (is.groups k) (without k) ∙ sym ((drops e k []).1 state).due) in
    let blank : HasBlank (record old { due = due }) = record { blank = λ k. search (rules, flags_at due k, flags_at old.due k, without k, decided.blank k); whole = search (rules, without 0, decided.whole) } in
    search (rules, flags, drop_spans e state decided.blank)

-- the last task of a stack comes first
pub popped : (stack rest : List GroupTask) (task : GroupTask) → stack ≡ rest ++ (task ∷ []) → reverse stack ≡ task ∷ reverse rest
popped stack rest task is = ap reverse is ∙ reverse-append rest (task ∷ [])

-- what comes in place of a node, before the rest
after_parts : (nodes : List Node) (w : List ℕ) (r : Region) (then : Then) (rest : List GroupTask) (more : ℕ) → AllByRecursion (IsTaskReady nodes w) (tasks_after then) → AllByRecursion (IsTaskReady nodes w) rest →
    AllByRecursion (IsTaskReady nodes w) (tasks_after then ++ rest) × (weights nodes (tasks_after then ++ rest) ≡ weights nodes (tasks_after then) + weights nodes rest) × (then_cost nodes r then 1 + more ≡ then_cost nodes r then more + 1)
after_parts nodes w r Done rest more ready others = search rules
after_parts nodes w r (One next) rest more ready others = search rules
after_parts nodes w r (Two next later) rest more ready others = search rules

-- there are no more tasks than they weigh
pub no_more : (nodes : List Node) (tasks : List GroupTask) → length tasks ≤ weights nodes tasks
no_more nodes [] = omega arith
no_more nodes (x ∷ tasks) = search (rules, no_more nodes tasks, size-pos)

-- so there is room for a task more
pub ruleset waiting = (no_more, length-reverse, size-pos)

-- a node of which no group is due
pub works_left : (s : Subject) (here : Matched) (rest : List GroupTask) (facts : Facts) (old : Decided) (paid owed steps : ℕ) → owed ≤ paid → AllByRecursion (IsTaskReady (nodes_in s) (subject_text s)) (Apart here ∷ rest) →
    IsFacts (tree_at (nodes_in s) here.node) here.node facts → ((k : ℕ) → IsTrue (holds facts.groups k) → IsTrue (holds old.due k) → ⊥) → HasBlank old → Works s (Apart here ∷ rest) old rest old 1 paid owed steps steps
unfolding IsCounted TakesAtLeast
works_left s here rest facts old paid owed steps less ready is apart decided =
    let none : NoneDue (tree_at (nodes_in s) here.node) (known_groups old) = λ k has. grind (arith, cases_eq k 0, cases_Bool (holds old.due k), flags_at old.due k, is.groups k, apart k, decided.whole) in
    search (rules, size-pos, passes_by (tree_at (nodes_in s) here.node) (subject_text s) here.start here.stop (known_groups old) none)

-- a node that was looked at
pub works_turn : (s : Subject) (here : Matched) (node : Node) (then : Then) (rest : List GroupTask) (old new : Decided) (r r' : Region) (facts : Facts) (more before begun after k : ℕ) →
    AllByRecursion (IsTaskReady (nodes_in s) (subject_text s)) (Apart here ∷ rest) → IsCounted before begun 1 → Takes before begun 1 → NodeTurned s here node (known_groups old) (known_groups new) r r' then begun after →
    IsFacts (tree_at (nodes_in s) here.node) here.node facts → IsTrue (holds facts.groups k) → HasBlank new → spans_in new.spans ≤ spans_in old.spans + 1 →
    Works s (Apart here ∷ rest) old (tasks_after then ++ rest) new 1 (match_cost (nodes_in s) r here + more) (then_cost (nodes_in s) r' then more) before after
unfolding IsCounted TakesAtLeast
works_turn s here node then rest old new r r' facts more before begun after k ready look once turned is has decided few =
    let parts = after_parts (nodes_in s) (subject_text s) r' then rest more turned.turn.ready ready.1 in
    let deep = (depths (tree_at (nodes_in s) here.node) k).1 (search (rules, is.groups k, and_parts)) in
    record {
      decided = decided;
      ready = parts.0;
      less = search (rules, turned.turn.less, parts.1);
      spent = search (rules, turned.cost deep, parts.2);
      n = entered_at node;
      run = turned.turn.run rest;
      entered = search rules;
      counts = search rules;
    }
