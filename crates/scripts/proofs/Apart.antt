-- Runs of a script whose commands look at their line alone, over lines and over more lines.
use Rattle.std.proofs.Common.{◌≡◌, ◌⊎◌, inl, inr, ℕ, suc, zero, ◌+◌, List, [], ◌∷◌, ◌++◌, Bool, true, false, not, ◌&&◌, Option, None, Some, refl, sym, ap, ap₂, subst, ◌∙◌, append-nil}
use Rattle.std.specs.Prelude.{slice_get, slice_set, is_none, is_some, if◌then◌else◌, option_and_then}
use Rattle.std.specs.List.{list_all, list_any, after_first}
use Rattle.sedspace.specs.Lines.{is_newline}
use Rattle.sedscript.specs.declared.types.Address.{Address}
use Rattle.sedscript.specs.declared.types.Address.TheVariants.{Match, Line, Last}
use Rattle.sedscript.specs.declared.types.Command.{Command}
use Rattle.sedscript.specs.declared.types.Action.{Action}
use Rattle.sedscript.specs.declared.types.Action.TheVariants as action
use Rattle.sedscript.specs.declared.types.Simple.TheVariants as simple
use Rattle.sedscript.specs.declared.types.BranchUse.TheVariants.{Always, IfReplaced}
use Rattle.sedscript.specs.declared.types.FileUse.TheVariants.{Read, Write}
use Rattle.sedscript.specs.declared.types.TextUse.TheVariants.{Append, Change, Insert}
use Rattle.sedscript.specs.declared.substitution.Substitution.{Substitution}
use Rattle.sedengine.specs.State.{Entry, text_entry, file_entry, Task, begin, rebegin, do_at, print_pattern, empty_pattern, flush, copy, fetch, join, MachineState, Move, Setting}
use Rattle.sedengine.specs.Substitute.{Occurrence}
use Rattle.sedengine.specs.Select.{Selection, selects, stands_for}
use Rattle.sedengine.specs.Move.{acts, after, begun_cycle, copies_byte, first_task, flushes, next_move, goes_past, reach, replaces, substitutes, start, written, quietly}
use Rattle.sedengine.proofs.Moves.{move_at, written_none}
use Rattle.examples.proofs.ComputedRun.{after_first as after_next, written_first as written_next, stays_still}
use Rattle.examples.proofs.ComputedEnds.{both}
use Rattle.sededit.specs.Editing.{IsOutput}
use Rattle.scripts.specs.Alone.{asks_text, has_expression, stays_in_line, looks_at_line}
use Rattle.scripts.proofs.Cycles.{Goes, goes_one, goes_on, ends_on}
use Rattle.sedengine.specs.Steps.{next_or_stay, writes_of}
use Rattle.sedengine.specs.Choose.{performs, is_active}
use Rattle.sedengine.specs.SubstituteCalls.{to_replace_in}

-- the tasks of such a script, and that nothing waits in the queue where a cycle begins
abbrev Clean : List Task → List Entry → Type 0
Clean [] queue = ⊥
Clean (begin ∷ rest) queue = (rest ≡ []) × (queue ≡ [])
Clean (rebegin ∷ rest) queue = (rest ≡ []) × (queue ≡ [])
Clean (do_at k ∷ rest) queue = rest ≡ []
Clean (print_pattern ∷ rest) queue = Clean rest queue
Clean (empty_pattern ∷ rest) queue = Clean rest queue
Clean (flush ∷ rest) queue = Clean rest []
Clean (copy k o ∷ rest) queue = Clean rest queue
Clean (fetch ∷ rest) queue = ⊥
Clean (join ∷ rest) queue = ⊥

-- the pattern space, and whether a substitution was made, are the same, but where a cycle begins with a line
abbrev SameText : List Task → MachineState → MachineState → Type 0
SameText [] s t = Unit {0}
SameText (begin ∷ rest) s t = Unit {0}
SameText (task ∷ rest) s t = (t.pattern ≡ s.pattern) × (t.replaced ≡ s.replaced)

-- a state, and one with more lines
record Alike (more : List (List ℕ)) (s t : MachineState) : Type 0 where
  lines : t.lines ≡ s.lines ++ more
  queue : t.queue ≡ s.queue
  tasks : t.tasks ≡ s.tasks
  clean : Clean s.tasks s.queue
  same : SameText s.tasks s t

-- both move, to such states again, and write the same
abbrev Both : List (List ℕ) → Option Move → Option Move → Type 0
Both more (Some m) (Some n) = (n.writes ≡ m.writes) × Alike more m.next n.next
Both more m n = ⊥

abbrev state : (lines : List (List ℕ)) (number : ℕ) (pattern hold : List ℕ) (replaced : Bool) (queue : List Entry) (ranges : List Bool) (used : Option ℕ) (tasks : List Task) (turns : ℕ) → MachineState
state lines number pattern hold replaced queue ranges used tasks turns = record {
  lines = lines;
  number = number;
  pattern = pattern;
  hold = hold;
  replaced = replaced;
  queue = queue;
  ranges = ranges;
  used = used;
  tasks = tasks;
  turns = turns;
}

module _ (more ls : List (List ℕ)) (n n' : ℕ) (h h' : List ℕ) (q : List Entry) (ra ra' : List Bool) (tu tu' k : ℕ) where
  abbrev here : List ℕ → Bool → Option ℕ → MachineState
  here p r u = state ls n p h r q ra u (do_at k ∷ []) tu

  abbrev there : List ℕ → Bool → Option ℕ → MachineState
  there p r u = state (ls ++ more) n' p h' r q ra' u (do_at k ∷ []) tu'

  goes_same : (writes : List (ℕ × ℕ)) (p : List ℕ) (r : Bool) (u u' : Option ℕ) → Both more (Some (record { next = here p r u; writes = writes })) (Some (record { next = there p r u'; writes = writes }))
  goes_same writes p r u u' = (refl, record { lines = refl; queue = refl; tasks = refl; clean = refl; same = (refl, refl) })

  replaces_both : (t : Substitution) (ms : List Occurrence) (p : List ℕ) (r : Bool) (u u' : Option ℕ) → Both more (replaces (here p r u) t ms) (replaces (there p r u') t ms)
  replaces_both t [] p r u u' = goes_same [] p r u u'
  replaces_both t (m ∷ ms) p r u u' = (refl, record { lines = refl; queue = refl; tasks = refl; clean = refl; same = (refl, refl) })

  substitutes_by : (g : Setting) (t : Substitution) (e : Option ℕ) (p : List ℕ) (r : Bool) (u u' : Option ℕ) → is_some e ≡ true →
      Both more (option_and_then (λ e. replaces (record (here p r u) { used = Some e }) t (to_replace_in g t e p)) (stands_for e u))
      (option_and_then (λ e. replaces (record (there p r u') { used = Some e }) t (to_replace_in g t e p)) (stands_for e u'))
  substitutes_by g t None p r u u' h = absurd cc
  substitutes_by g t (Some e) p r u u' h = replaces_both t (to_replace_in g t e p) p r (Some e) (Some e)

  substitutes_both : (g : Setting) (o : Option Substitution) (p : List ℕ) (r : Bool) (u u' : Option ℕ) → has_expression o ≡ true → Both more (substitutes g (here p r u) o) (substitutes g (there p r u') o)
  substitutes_both g None p r u u' h = goes_same [] p r u u'
  substitutes_both g (Some t) p r u u' h = substitutes_by g t t.expression p r u u' h

  cuts_first : (found : Bool) (p : List ℕ) (r : Bool) (u u' : Option ℕ) →
      Both more (quietly (if found then record (here p r u) { pattern = after_first is_newline p; tasks = flush ∷ rebegin ∷ [] } else record (here p r u) { pattern = []; tasks = flush ∷ begin ∷ [] }))
      (quietly (if found then record (there p r u') { pattern = after_first is_newline p; tasks = flush ∷ rebegin ∷ [] } else record (there p r u') { pattern = []; tasks = flush ∷ begin ∷ [] }))
  cuts_first true p r u u' = (refl, record { lines = refl; queue = refl; tasks = refl; clean = (refl, refl); same = (refl, refl) })
  cuts_first false p r u u' = (refl, record { lines = refl; queue = refl; tasks = refl; clean = (refl, refl); same = (refl, refl) })

  acts_both : (g : Setting) (shows : Bool) (p : List ℕ) (r : Bool) (u u' : Option ℕ) (a : Action) → stays_in_line g.substitutions a ≡ true → Both more (acts g (here p r u) shows a) (acts g (there p r u') shows a)
  acts_both g shows p r u u' (action.Block next) h = goes_same [] p r u u'
  acts_both g shows p r u u' (action.Text Append i) h = (refl, record { lines = refl; queue = refl; tasks = refl; clean = refl; same = (refl, refl) })
  acts_both g shows p r u u' (action.Branch Always to) h = (refl, record { lines = refl; queue = refl; tasks = refl; clean = refl; same = (refl, refl) })
  acts_both g shows p r u u' (action.Text Change i) h = (refl, record { lines = refl; queue = refl; tasks = refl; clean = (refl, refl); same = (refl, refl) })
  acts_both g shows p r u u' (action.Plain simple.Delete) h = (refl, record { lines = refl; queue = refl; tasks = refl; clean = (refl, refl); same = (refl, refl) })
  acts_both g shows p r u u' (action.Plain simple.DeleteFirst) h = cuts_first (list_any is_newline p) p r u u'
  acts_both g shows p r u u' (action.Text Insert i) h = goes_same (writes_of (acts g (here p r u) shows (action.Text Insert i))) p r u u'
  acts_both g shows p r u u' (action.Plain simple.List) h = goes_same (writes_of (acts g (here p r u) shows (action.Plain simple.List))) p r u u'
  acts_both g shows p r u u' (action.Plain simple.Print) h = goes_same (writes_of (acts g (here p r u) shows (action.Plain simple.Print))) p r u u'
  acts_both g shows p r u u' (action.Plain simple.PrintFirst) h = goes_same (writes_of (acts g (here p r u) shows (action.Plain simple.PrintFirst))) p r u u'
  acts_both g shows p r u u' (action.File Read i) h = (refl, record { lines = refl; queue = refl; tasks = refl; clean = refl; same = (refl, refl) })
  acts_both g shows p r u u' (action.Substitute i) h = substitutes_both g (slice_get g.substitutions i) p r u u' h
  acts_both g shows p true u u' (action.Branch IfReplaced to) h = (refl, record { lines = refl; queue = refl; tasks = refl; clean = refl; same = (refl, refl) })
  acts_both g shows p false u u' (action.Branch IfReplaced to) h = goes_same [] p false u u'
  acts_both g shows p r u u' (action.File Write i) h = goes_same (writes_of (acts g (here p r u) shows (action.File Write i))) p r u u'
  acts_both g shows p r u u' (action.Transliterate i) h = (refl, record { lines = refl; queue = refl; tasks = refl; clean = refl; same = (refl, refl) })
  acts_both g shows p r u u' (action.Plain simple.NextLine) h = absurd cc
  acts_both g shows p r u u' (action.Plain simple.AppendNext) h = absurd cc
  acts_both g shows p r u u' (action.Plain simple.Quit) h = absurd cc
  acts_both g shows p r u u' (action.Plain simple.LineNumber) h = absurd cc
  acts_both g shows p r u u' (action.Plain simple.AppendHold) h = absurd cc
  acts_both g shows p r u u' (action.Plain simple.CopyHold) h = absurd cc
  acts_both g shows p r u u' (action.Plain simple.Exchange) h = absurd cc
  acts_both g shows p r u u' (action.Plain simple.Hold) h = absurd cc
  acts_both g shows p r u u' (action.Plain simple.HoldMore) h = absurd cc

  passes_both : (p : List ℕ) (r : Bool) (u u' : Option ℕ) (a : Action) → Both more (goes_past (here p r u) a) (goes_past (there p r u') a)
  passes_both p r u u' (action.Block next) = (refl, record { lines = refl; queue = refl; tasks = refl; clean = refl; same = (refl, refl) })
  passes_both p r u u' other = goes_same [] p r u u'

-- ---- one move

abbrev command : Option Address → Bool → Action → Command
command first negate a = record { first = first; second = None; negate = negate; action = a }

abbrev choice : Bool → Bool → Option ℕ → Selection
choice selected active used = record { yes = selected; end = false; active = active; used = used }

same_text : (ts : List Task) (s t : MachineState) → t.pattern ≡ s.pattern → t.replaced ≡ s.replaced → SameText ts s t
same_text [] s t e f = tt
same_text (begin ∷ rest) s t e f = tt
same_text (task ∷ rest) s t e f = (e, f)

-- the first task is another one than to begin with a line
abbrev GoesOn : Task → Type 0
GoesOn begin = ⊥
GoesOn task = Unit {0}

-- the command of a number, if there is one, looks at its line alone
abbrev AloneAt : Setting → Option Command → Type 0
AloneAt g None = Unit {0}
AloneAt g (Some c) = looks_at_line g.substitutions c ≡ true

module _ (g : Setting) (more ls : List (List ℕ)) (n n' : ℕ) (p h h' : List ℕ) (r : Bool) (q : List Entry) (ra ra' : List Bool) (u u' : Option ℕ) (tu tu' : ℕ) where
  abbrev one : List Task → MachineState
  one ts = state ls n p h r q ra u ts tu

  abbrev other : List Task → MachineState
  other ts = state (ls ++ more) n' p h' r q ra' u' ts tu'

  performs_both : (k : ℕ) (ts : List Task) (first : Option Address) (negate : Bool) (a : Action) (yes active active' : Bool) (v v' : Option ℕ) → stays_in_line g.substitutions a ≡ true →
      Both more (performs g (one ts) k (command first negate a) (choice yes active v)) (performs g (other ts) k (command first negate a) (choice yes active' v'))
  performs_both k ts first negate a true active active' v v' h0 =
      acts_both more ls n n' h h' q (slice_set ra k active) (slice_set ra' k active') (tu + 1) (tu' + 1) (k + 1) g true p r v v' a h0
  performs_both k ts first negate a false active active' v v' h0 =
      passes_both more ls n n' h h' q (slice_set ra k active) (slice_set ra' k active') (tu + 1) (tu' + 1) (k + 1) p r v v' a

  reach_with : (k : ℕ) (ts : List Task) (first : Option Address) (negate : Bool) (a : Action) → asks_text first ≡ true → stays_in_line g.substitutions a ≡ true →
      Both more (reach g (one ts) k (Some (command first negate a))) (reach g (other ts) k (Some (command first negate a)))
  unfolding selects
  reach_with k ts None negate a e f = performs_both k ts None negate a (if negate then false else true) (is_active (one ts) k) (is_active (other ts) k) u u' f
  reach_with k ts (Some (Match (Some x))) negate a e f =
      performs_both k ts (Some (Match (Some x))) negate a (if negate then not (g.finds x p) else g.finds x p) (is_active (one ts) k) (is_active (other ts) k) (Some x) (Some x) f
  reach_with k ts (Some (Match None)) negate a e f = absurd cc
  reach_with k ts (Some (Line i)) negate a e f = absurd cc
  reach_with k ts (Some Last) negate a e f = absurd cc

  reach_parts : (k : ℕ) (ts : List Task) (first second : Option Address) (negate : Bool) (a : Action) → ((is_none second && asks_text first) && stays_in_line g.substitutions a) ≡ true →
      Both more (reach g (one ts) k (Some (record { first = first; second = second; negate = negate; action = a }))) (reach g (other ts) k (Some (record { first = first; second = second; negate = negate; action = a })))
  reach_parts k ts first (Some b) negate a e = absurd cc
  reach_parts k ts first None negate a e = let two = both (asks_text first) (stays_in_line g.substitutions a) e in reach_with k ts first negate a two.0 two.1

  reach_both : (k : ℕ) (ts : List Task) (o : Option Command) → AloneAt g o → Both more (reach g (one ts) k o) (reach g (other ts) k o)
  reach_both k ts None e = (refl, record { lines = refl; queue = refl; tasks = refl; clean = (refl, refl); same = (refl, refl) })
  reach_both k ts (Some c) e = reach_parts k ts c.first c.second c.negate c.action e

  flushes_both : (rest : List Task) → Clean rest [] → (ts : List Task) (q' : List Entry) → Both more (flushes (record (one ts) { queue = q' }) rest q') (flushes (record (other ts) { queue = q' }) rest q')
  flushes_both rest c ts [] = (refl, record { lines = refl; queue = refl; tasks = refl; clean = c; same = same_text rest _ _ refl refl })
  flushes_both rest c ts (text_entry bytes ∷ q') = (refl, record { lines = refl; queue = refl; tasks = refl; clean = c; same = (refl, refl) })
  flushes_both rest c ts (file_entry k ∷ q') = (refl, record { lines = refl; queue = refl; tasks = refl; clean = c; same = (refl, refl) })

  copies_both : (rest : List Task) → Clean rest q → (ts : List Task) (k o : ℕ) (b : Option ℕ) → Both more (copies_byte (one ts) rest k o b) (copies_byte (other ts) rest k o b)
  copies_both rest c ts k o None = (refl, record { lines = refl; queue = refl; tasks = refl; clean = c; same = same_text rest _ _ refl refl })
  copies_both rest c ts k o (Some b) = (refl, record { lines = refl; queue = refl; tasks = refl; clean = c; same = (refl, refl) })

  task_both : (alone : (k : ℕ) → AloneAt g (slice_get g.commands k)) (task : Task) (rest : List Task) → GoesOn task → Clean (task ∷ rest) q →
      Both more (first_task g (one (task ∷ rest)) (task ∷ rest)) (first_task g (other (task ∷ rest)) (task ∷ rest))
  task_both alone begin rest on c = absurd on
  task_both alone rebegin rest on c = (refl, record { lines = refl; queue = refl; tasks = refl; clean = refl; same = (refl, refl) })
  task_both alone (do_at k) rest on c = reach_both k (do_at k ∷ rest) (slice_get g.commands k) (alone k)
  task_both alone print_pattern rest on c = (refl, record { lines = refl; queue = refl; tasks = refl; clean = c; same = same_text rest _ _ refl refl })
  task_both alone empty_pattern rest on c = (refl, record { lines = refl; queue = refl; tasks = refl; clean = c; same = same_text rest _ _ refl refl })
  task_both alone flush rest on c = flushes_both rest c (flush ∷ rest) q
  task_both alone (copy k o) rest on c = copies_both rest c (copy k o ∷ rest) k o (slice_get (g.files k) o)
  task_both alone fetch rest on c = absurd c
  task_both alone join rest on c = absurd c

-- each command of the script looks at its line alone
abbrev pub AllAlone : Setting → Type 0
AllAlone g = list_all (looks_at_line g.substitutions) g.commands ≡ true

alone_at : (g : Setting) (cs : List Command) → list_all (looks_at_line g.substitutions) cs ≡ true → (k : ℕ) → AloneAt g (slice_get cs k)
alone_at g [] h k = tt
alone_at g (c ∷ cs) h zero = (both (looks_at_line g.substitutions c) (list_all (looks_at_line g.substitutions) cs) h).0
alone_at g (c ∷ cs) h (suc k) = alone_at g cs (both (looks_at_line g.substitutions c) (list_all (looks_at_line g.substitutions) cs) h).1 k

-- where no line is left, a run ends at the beginning of a cycle
ends_at : (g : Setting) (s : MachineState) → s.tasks ≡ begin ∷ [] → s.lines ≡ [] → IsOutput g s []
unfolding after written
ends_at g s e none =
    let ends = move_at g s (begin ∷ []) e ∙ ap (begun_cycle s) none in
    record { moves = 1; ended = ap (λ o. (next_or_stay s o).tasks) ends; wrote = ap writes_of ends }

-- the state begins a cycle, and no line is left; or both move
abbrev Steps : List (List ℕ) → Setting → MachineState → MachineState → Type 0
Steps more g s t = ((s.tasks ≡ begin ∷ []) × (s.lines ≡ [])) ⊎ Both more (next_move g s) (next_move g t)

same_fields : (ls ls' : List (List ℕ)) (p p' : List ℕ) (r r' : Bool) (q q' : List Entry) (ts ts' : List Task) (n : ℕ) (h : List ℕ) (ra : List Bool) (u : Option ℕ) (tu : ℕ) → ls ≡ ls' → p ≡ p' → r ≡ r' → q ≡ q' → ts ≡ ts' →
    state ls n p h r q ra u ts tu ≡ state ls' n p' h r' q' ra u ts' tu
same_fields ls ls' p p' r r' q q' ts ts' n h ra u tu a b c d e = cc

same_state : (t : MachineState) (ls : List (List ℕ)) (p : List ℕ) (r : Bool) (q : List Entry) (ts : List Task) → t.lines ≡ ls → t.pattern ≡ p → t.replaced ≡ r → t.queue ≡ q → t.tasks ≡ ts →
    t ≡ state ls t.number p t.hold r q t.ranges t.used ts t.turns
same_state t ls p r q ts a b c d e = same_fields t.lines ls t.pattern p t.replaced r t.queue q t.tasks ts t.number t.hold t.ranges t.used t.turns a b c d e

text_same : (task : Task) (rest : List Task) (s t : MachineState) → GoesOn task → SameText (task ∷ rest) s t → (t.pattern ≡ s.pattern) × (t.replaced ≡ s.replaced)
text_same begin rest s t on h = absurd on
text_same task rest s t on h = h

module _ (g : Setting) (alone : AllAlone g) (more : List (List ℕ)) where
  begins_both : (ls : List (List ℕ)) (s t : MachineState) → s.lines ≡ ls → Alike more s t → s.tasks ≡ begin ∷ [] → Steps more g s t
  begins_both [] s t e a b = inl (b, e)
  begins_both (line ∷ rest) s t e a b =
      let here : next_move g s ≡ begun_cycle s (line ∷ rest) = move_at g s (begin ∷ []) b ∙ ap (begun_cycle s) e in
      let there : next_move g t ≡ begun_cycle t (line ∷ rest ++ more) = move_at g t (begin ∷ []) (a.tasks ∙ b) ∙ ap (begun_cycle t) (a.lines ∙ ap (λ ls. ls ++ more) e) in
      let both : Both more (begun_cycle s (line ∷ rest)) (begun_cycle t (line ∷ rest ++ more)) = (refl, record { lines = refl; queue = a.queue; tasks = refl; clean = refl; same = (refl, refl) }) in
      inr (subst (λ x. Both more x (next_move g t)) (sym here) (subst (λ y. Both more (begun_cycle s (line ∷ rest)) y) (sym there) both))

  goes_both : (s t : MachineState) → Alike more s t → (task : Task) (rest : List Task) → s.tasks ≡ task ∷ rest → GoesOn task → Both more (next_move g s) (next_move g t)
  unfolding next_move
  goes_both s t a task rest e on =
      let texts = text_same task rest s t on (subst (λ ts. SameText ts s t) e a.same) in
      let here = same_state s s.lines s.pattern s.replaced s.queue (task ∷ rest) refl refl refl refl e in
      let there = same_state t (s.lines ++ more) s.pattern s.replaced s.queue (task ∷ rest) a.lines texts.0 texts.1 a.queue (a.tasks ∙ e) in
      let both = task_both g more s.lines s.number t.number s.pattern s.hold t.hold s.replaced s.queue s.ranges t.ranges s.used t.used s.turns t.turns (alone_at g g.commands alone) task rest on (subst (λ ts. Clean ts s.queue) e a.clean) in
      subst (λ (x : MachineState). Both more (next_move g x) (next_move g t)) (sym here) (subst (λ (y : MachineState). Both more (next_move g (record s { tasks = task ∷ rest })) (next_move g y)) (sym there) both)

  steps_by : (s t : MachineState) → Alike more s t → (ts : List Task) → s.tasks ≡ ts → Steps more g s t
  steps_by s t a [] e = absurd (subst (λ ts. Clean ts s.queue) e a.clean)
  steps_by s t a (begin ∷ rest) e =
      let c : Clean (begin ∷ rest) s.queue = subst (λ ts. Clean ts s.queue) e a.clean in begins_both s.lines s t refl a (e ∙ ap (λ ts. begin ∷ ts) c.0)
  steps_by s t a (task ∷ rest) e = inr (goes_both s t a task rest e tt)

  -- a run over these lines alone ends; over more, the same moves lead to where the others are begun with
  abbrev Apart : MachineState → List (ℕ × ℕ) → Type 0
  Apart t out = (u : MachineState) × Goes g t u out × (u.tasks ≡ begin ∷ []) × (u.lines ≡ more) × (u.queue ≡ [])

  -- a run that begins where no line is left writes nothing
  nothing_more : (s : MachineState) (n : ℕ) → s.tasks ≡ begin ∷ [] → s.lines ≡ [] → written g s n ≡ []
  unfolding written
  nothing_more s zero e none = refl
  nothing_more s (suc n) e none =
      let ends = move_at g s (begin ∷ []) e ∙ ap (begun_cycle s) none in
      written_next g s _ n ends ∙ stays_still g (record s { tasks = [] }) n (move_at g (record s { tasks = [] }) [] refl)

  not_ended : (s t : MachineState) → Alike more s t → s.tasks ≡ [] → ⊥
  not_ended s t a e = subst (λ ts. Clean ts s.queue) e a.clean

  parts_after : (n : ℕ) (s t : MachineState) (o o' : Option Move) → next_move g s ≡ o → next_move g t ≡ o' → Both more o o' →
      ((s t : MachineState) → Alike more s t → (after g s n).tasks ≡ [] → Apart t (written g s n)) → (after g s (suc n)).tasks ≡ [] → Apart t (written g s (suc n))
  parts_after n s t None o' here there both on e = absurd both
  parts_after n s t (Some m) None here there both on e = absurd both
  parts_after n s t (Some m) (Some w) here there both on e =
      let rest = on m.next w.next both.1 (ap (λ (x : MachineState). x.tasks) (sym (after_next g s m n here)) ∙ e) in (
        rest.0,
        subst (Goes g t rest.0) (ap (λ bytes. bytes ++ written g m.next n) both.0 ∙ sym (written_next g s m n here)) (goes_on (goes_one there) rest.1),
        rest.2,
        rest.3,
        rest.4,
      )

  parts : (n : ℕ) (s t : MachineState) → Alike more s t → (after g s n).tasks ≡ [] → Apart t (written g s n)
  unfolding after
  parts zero s t a e = absurd (not_ended s t a e)
  parts (suc n) s t a e = elim (steps_by s t a s.tasks refl) [
    | inl h ↦ (t, record { moves = 0; is = refl; wrote = written_none g t ∙ sym (nothing_more s (suc n) h.0 h.1) }, a.tasks ∙ h.0, a.lines ∙ ap (λ ls. ls ++ more) h.1, a.queue ∙ begins_clean s h.0 a.clean)
    | inr both ↦ parts_after n s t (next_move g s) (next_move g t) refl refl both (parts n) e
  ]
    where
      begins_clean : (s : MachineState) → s.tasks ≡ begin ∷ [] → Clean s.tasks s.queue → s.queue ≡ []
      begins_clean s h c = (let d : Clean (begin ∷ []) s.queue = subst (λ ts. Clean ts s.queue) h c in d).1

-- The run over some lines and the run over others, one after the other, are the run over all of them.
pub one_after_other : (g : Setting) → AllAlone g → (commands : List Command) (first second : List (List ℕ)) (x y : List (ℕ × ℕ)) →
    IsOutput g (start commands first) x → IsOutput g (start commands second) y → IsOutput g (start commands (first ++ second)) (x ++ y)
one_after_other g alone commands first second x y a b =
    let one = parts g alone second a.moves (start commands first) (start commands (first ++ second)) (record { lines = refl; queue = refl; tasks = refl; clean = (refl, refl); same = tt }) a.ended in
    let two = parts g alone [] b.moves (start commands second) one.0 (record { lines = one.3 ∙ sym (append-nil second); queue = one.4; tasks = one.2; clean = (refl, refl); same = tt }) b.ended in
    let last : IsOutput g two.0 [] = ends_at g two.0 two.2 two.3 in
    subst (IsOutput g (start commands (first ++ second))) (ap₂ (λ v w. v ++ w) a.wrote (append-nil (written g (start commands second) b.moves) ∙ b.wrote)) (ends_on one.1 (ends_on two.1 last))
