-- An end that comes by the first task has its cause: what a move does to the line number and to the turns.
use Rattle.std.proofs.Common.{◌≡◌, ℕ, ◌+◌, ◌<◌, ◌≤◌, ◌⊎◌, inl, inr, Bool, true, false, List, [], ◌∷◌, length, Option, Some, None, refl, subst, sym, ap, ◌∙◌, arith, not}
use Rattle.std.proofs.lemmas.Bool.{true≢false}
use Rattle.std.specs.Prelude.{if◌then◌else◌, is_some, slice_get, slice_index_or}
use Rattle.std.specs.Option.{option_and_then}
use Rattle.std.specs.List.{list_any}
use Rattle.sedspace.specs.Lines.{is_newline}
use Rattle.sedacts.specs.Types.{Command, Action, Substitution, Ended, Done, PatternFull, HoldFull, QueueFull, TurnsSpent, NoPrevious, InputBroken}
use Rattle.sedscript.specs.declared.types.Action.TheVariants.{Block, Branch, File, Plain, Substitute, Text}
use Rattle.sedscript.specs.declared.types.TextUse.TheVariants.{Change}
use Rattle.sedscript.specs.declared.types.BranchUse.TheVariants.{IfReplaced}
use Rattle.sedscript.specs.declared.types.FileUse.TheVariants.{Read}
use Rattle.sedscript.specs.declared.types.Simple.TheVariants as simple
use Rattle.sedacts.specs.State.{LimitsView, Entry, text_entry, file_entry, Task, begin, do_at, flush, copy, fetch, join, MachineState, Move, Setting}
use Rattle.sedacts.specs.Select.{selects, stands_for}
use Rattle.sedacts.specs.Substitute.{Occurrence, each_occurrence, to_replace}
use Rattle.sedacts.specs.Move.{acts, begun_cycle, copies_byte, current_of, first_task, flushes, next_move, none_left, goes_past, quietly, reach, having_reached, replaces, substitutes, takes_next_line, writes_text_at}
use Rattle.sedacts.specs.Choose.{performs}
use Rattle.sedacts.specs.Ends.{WithinLimits, StopsAt}
use Rattle.sedacts.specs.Steps.{StopsTask, line_at, reaches, takes_turn}

-- a move, where there is one, to a state with this line number and so many turns
abbrev Has : ℕ → ℕ → Option Move → Type 0
Has number turns None = Unit {0}
Has number turns (Some m) = (m.next.number ≡ number) × (m.next.turns ≡ turns)

module _ (number turns : ℕ) where
  either : (a b : Option Move) (c : Bool) → Has number turns a → Has number turns b → Has number turns (if c then a else b)
  either a b true h k = h
  either a b false h k = k

  either_state : (a b : MachineState) (c : Bool) → Has number turns (quietly a) → Has number turns (quietly b) → Has number turns (quietly (if c then a else b))
  either_state a b true h k = h
  either_state a b false h k = k

  where_some : {A : Type 0} (f : A → Option Move) (o : Option A) → ((x : A) → Has number turns (f x)) → Has number turns (option_and_then f o)
  where_some f None h = tt
  where_some f (Some x) h = h x

replaces_has : (s : MachineState) (t : Substitution) (ms : List Occurrence) → Has s.number s.turns (replaces s t ms)
replaces_has s t [] = (refl, refl)
replaces_has s t (m ∷ ms) = (refl, refl)

substitutes_has : (g : Setting) (s : MachineState) (o : Option Substitution) → Has s.number s.turns (substitutes g s o)
substitutes_has g s None = (refl, refl)
substitutes_has g s (Some t) =
    where_some s.number s.turns (λ e. replaces (record s { used = Some e }) t (to_replace t.number t.global (each_occurrence (g.search e s.pattern) (length s.pattern))))
    (stands_for t.expression s.used) (λ e. replaces_has (record s { used = Some e }) t _)

acts_has : (g : Setting) (s : MachineState) (w : Bool) (a : Action) → Has s.number s.turns (acts g s w a)
acts_has g s w (Text Change k) = (refl, refl)
acts_has g s w (Branch IfReplaced target) = either_state s.number s.turns _ _ s.replaced (refl, refl) (refl, refl)
acts_has g s w (Plain simple.DeleteFirst) = either_state s.number s.turns _ _ (list_any is_newline s.pattern) (refl, refl) (refl, refl)
acts_has g s w (Plain simple.NextLine) = either_state s.number s.turns _ _ (none_left s.lines) (refl, refl) (refl, refl)
acts_has g s w (File Read k) = (refl, refl)
acts_has g s w (Substitute k) = substitutes_has g s (slice_get g.substitutions k)
acts_has g s w other = (refl, refl)

passes_has : (s : MachineState) (a : Action) → Has s.number s.turns (goes_past s a)
passes_has s (Block next) = (refl, refl)
passes_has s other = (refl, refl)

reach_has : (g : Setting) (s : MachineState) (k : ℕ) (c : Command) → Has s.number (s.turns + 1) (reach g s k (Some c))
reach_has g s k c =
    where_some s.number (s.turns + 1) (performs g s k c) (selects (current_of g s) (slice_index_or s.ranges k false) c) (λ choice.
    either s.number (s.turns + 1) (acts g (having_reached s k choice) (writes_text_at c choice.end) c.action) (goes_past (having_reached s k choice) c.action) choice.yes
    (acts_has g (having_reached s k choice) (writes_text_at c choice.end) c.action) (passes_has (having_reached s k choice) c.action))

-- What the move by a first task, where it has one, does to the turns and to the line number. Where it doesn't lead to that
-- task's line, the pattern space stays, and where it leads to another line, the hold space and the queue do.
abbrev Goes : Bool → ℕ → MachineState → Option Move → Type 0
Goes takes line s None = Unit {0}
Goes takes line s (Some m) =
    (m.next.turns ≡ (if takes then s.turns + 1 else s.turns)) × ((m.next.number ≡ line) ⊎ (m.next.pattern ≡ s.pattern))
    × ((m.next.number ≡ s.number) ⊎ ((m.next.hold ≡ s.hold) × (m.next.queue ≡ s.queue)))

begins_goes : (s : MachineState) (ls : List (List ℕ)) → Goes (not (none_left ls)) (s.number + 1) s (begun_cycle s ls)
begins_goes s [] = (refl, inr refl, inl refl)
begins_goes s (line ∷ rest) = (refl, inl refl, inr (refl, refl))

has_goes : (s : MachineState) (o : Option Move) → Has s.number (s.turns + 1) o → Goes true s.number s o
has_goes s None h = tt
has_goes s (Some m) h = (h.1, inl h.0, inl h.0)

reach_goes : (g : Setting) (s : MachineState) (k : ℕ) (o : Option Command) → Goes (is_some o) s.number s (reach g s k o)
reach_goes g s k None = (refl, inl refl, inl refl)
reach_goes g s k (Some c) = has_goes s (reach g s k (Some c)) (reach_has g s k c)

flushes_goes : (s : MachineState) (rest : List Task) (queue : List Entry) → Goes false s.number s (flushes s rest queue)
flushes_goes s rest [] = (refl, inl refl, inl refl)
flushes_goes s rest (text_entry bytes ∷ queue) = (refl, inl refl, inl refl)
flushes_goes s rest (file_entry k ∷ queue) = (refl, inl refl, inl refl)

copies_goes : (s : MachineState) (rest : List Task) (k o : ℕ) (b : Option ℕ) → Goes (is_some b) s.number s (copies_byte s rest k o b)
copies_goes s rest k o None = (refl, inl refl, inl refl)
copies_goes s rest k o (Some b) = (refl, inl refl, inl refl)

takes_line_goes : (s : MachineState) (rest : List Task) (made : List ℕ → List ℕ) (ls : List (List ℕ)) → Goes false (s.number + 1) s (takes_next_line s rest made ls)
takes_line_goes s rest made [] = (refl, inr refl, inl refl)
takes_line_goes s rest made (line ∷ lines) = (refl, inl refl, inr (refl, refl))

first_goes : (g : Setting) (s : MachineState) (ts : List Task) → Goes (takes_turn g s ts) (line_at s ts) s (first_task g s ts)
first_goes g s [] = tt
first_goes g s (begin ∷ rest) = begins_goes s s.lines
first_goes g s (do_at k ∷ rest) = reach_goes g s k (slice_get g.commands k)
first_goes g s (flush ∷ rest) = flushes_goes s rest s.queue
first_goes g s (copy k o ∷ rest) = copies_goes s rest k o (slice_get (g.files k) o)
first_goes g s (fetch ∷ rest) = takes_line_goes s rest _ s.lines
first_goes g s (join ∷ rest) = takes_line_goes s rest _ s.lines
first_goes g s (other ∷ rest) = (refl, inl refl, inl refl)

module _ (g : Setting) (s : MachineState) where
  move_goes : (m : Move) → next_move g s ≡ Some m → Goes (takes_turn g s s.tasks) (line_at s s.tasks) s (Some m)
  unfolding next_move
  move_goes m is = subst (Goes (takes_turn g s s.tasks) (line_at s s.tasks) s) is (first_goes g s s.tasks)

  has_tasks : takes_turn g s s.tasks ≡ true → s.tasks ≡ [] → ⊥
  has_tasks takes none = true≢false (sym takes ∙ ap (takes_turn g s) none)

  -- the end of the script always has a move
  command_there : (k : ℕ) (o : Option Command) → reach g s k o ≡ None → is_some o ≡ true
  command_there k None none = absurd cc
  command_there k (Some c) none = refl

  reaching_takes : (ts : List Task) → reaches ts ≡ true → first_task g s ts ≡ None → takes_turn g s ts ≡ true
  reaching_takes (do_at k ∷ rest) at none = command_there k (slice_get g.commands k) none
  reaching_takes other at none = absurd cc

  stuck_takes : reaches s.tasks ≡ true → next_move g s ≡ None → takes_turn g s s.tasks ≡ true
  unfolding next_move
  stuck_takes at none = reaching_takes s.tasks at none

turns_left : (takes : Bool) (a b most : ℕ) → b ≡ (if takes then a + 1 else a) → (takes ≡ true → a < most) → a ≤ most → b ≤ most
turns_left true a b most is less fit = let room = less refl in omega arith
turns_left false a b most is less fit = omega arith

turn_taken : (takes : Bool) (a b : ℕ) → b ≡ (if takes then a + 1 else a) → takes ≡ true → a < b
turn_taken true a b is takes = omega arith
turn_taken false a b is takes = absurd cc

-- the same number, where else the longer list would be one that fits
line_of : {A : Type 0} (n a line most : ℕ) (old new : List A) → n ≡ line → (a ≡ line) ⊎ (new ≡ old) → length old ≤ most → most < length new → n ≡ a
line_of n a line most old new at (inl same) fit more = at ∙ sym same
line_of n a line most old new at (inr same) fit more = absurd (omega (arith, ap length same))

one_same : {A B C : Type 0} → A ⊎ (B × C) → A ⊎ B
one_same (inl x) = inl x
one_same (inr x) = inr x.0

other_same : {A B C : Type 0} → A ⊎ (B × C) → A ⊎ C
other_same (inl x) = inl x
other_same (inr x) = inr x.1

pub cause_is : (l : LimitsView) (g : Setting) (s : MachineState) (end : Ended) → WithinLimits l s → StopsTask l g s end → StopsAt l g s end
cause_is l g s Done f h = h
cause_is l g s (PatternFull n) f (at, turn, (m, is, more)) =
    let h = move_goes g s m is in
    (m, is, line_of n m.next.number (line_at s s.tasks) l.space s.pattern m.next.pattern at h.1 f.pattern more, turns_left _ _ _ _ h.0 turn f.turns, more)
cause_is l g s (HoldFull n) f (at, turn, (m, is, more)) =
    let h = move_goes g s m is in
    (m, is, line_of n m.next.number s.number l.space s.hold m.next.hold at (one_same h.2) f.hold more, turns_left _ _ _ _ h.0 turn f.turns, more)
cause_is l g s (QueueFull n) f (at, turn, (m, is, more)) =
    let h = move_goes g s m is in
    (m, is, line_of n m.next.number s.number l.queue s.queue m.next.queue at (other_same h.2) f.queue more, turns_left _ _ _ _ h.0 turn f.turns, more)
cause_is l g s TurnsSpent f (spent, takes) =
    (spent, has_tasks g s takes, λ m is. let more = turn_taken _ _ _ (move_goes g s m is).0 takes in omega (arith, spent, more))
cause_is l g s (NoPrevious n) f (at, turn, reach, none) =
    let takes = stuck_takes g s reach none in (at, turn takes, has_tasks g s takes, none)
cause_is l g s InputBroken f h = h
cause_is l g s other f h = absurd h
