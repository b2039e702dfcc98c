-- Entries of the queue, written one after another.
use Rattle.std.proofs.Common.{◌≡◌, ℕ, ◌+◌, ◌≤◌, false, List, [], ◌∷◌, length, Option, Some, None, Result, Ok, Err, refl, ap, ◌∙◌, arith}
use Rattle.std.specs.Io.KnownBytes.{Keeps}
use Rattle.sedacts.specs.State.{LimitsView, Entry, text_entry, file_entry, Task, flush, copy, MachineState, Setting, GivesFiles}
use Rattle.sedacts.specs.Move.{next_move, after, written, flushes, line_to}
use Rattle.sedacts.specs.Meters.{WereSent, SinkView}
use Rattle.sedacts.specs.Calls.{PutsBytes}
use Rattle.sedacts.specs.Ends.{WithinLimits, StaysWithin}
use Rattle.sedacts.specs.Held.{SameLengths}
use Rattle.sedacts.specs.Run.{InOneCycle, starts_cycle}
use Rattle.sedacts.specs.Steps.{MovesTo, Ran, MakesMoves, HasAction}
use Rattle.sedacts.specs.declared.ends.Ended.{Ended}
use Rattle.sedacts.proofs.Sending.{WereSent-append, WereSent-none}
use Rattle.sedacts.proofs.Moves.{chain, ran_once, ran_quietly, stopped_writing, MakesMoves-then, move_at, after-add, written-add, StaysWithin-add, InOneCycle-add, InOneCycle-more, after_none, written_none, within_none, one_single}
use Rattle.sedscript.specs.declared.types.Command.{Command}
use Rattle.sedscript.specs.declared.types.Action.{Action}
use Rattle.sedacts.specs.Keeping.{entry_by, entry_for}

-- texts that kept their bytes give the same files
pub gives_on : (old new : ℕ → Option (List ℕ)) (files : ℕ → List ℕ) → GivesFiles old files → ((k : ℕ) → Keeps (old k) (new k)) → GivesFiles new files
gives_on old new files shown keeps = λ k. kept (old k) (new k) (files k) (shown k) (keeps k)
  where
    kept : (a b : Option (List ℕ)) (bytes : List ℕ) → a ≡ Some bytes → Keeps a b → b ≡ Some bytes
    kept None b bytes is keeps = cc
    kept (Some xs) None bytes is keeps = absurd keeps
    kept (Some xs) (Some ys) bytes is keeps = cc

-- the state after the first entry: these are left
abbrev pub at_entries : MachineState → List Entry → List Task → ℕ → MachineState
at_entries s later tasks turns = record s { queue = later; tasks = tasks; turns = turns }

-- what is left of the queue fits, and a state that has the lengths of the whole has its lengths too
pub fits_later : (l : LimitsView) (s : MachineState) (later : List Entry) (tasks : List Task) (turns : ℕ) → WithinLimits l s → length later ≤ length s.queue → turns ≤ l.turns → WithinLimits l (at_entries s later tasks turns)
fits_later l s later tasks turns f le most = record { pattern = f.pattern; hold = f.hold; queue = omega (arith, f.queue); turns = most }

pub same_later : (s now : MachineState) (later : List Entry) (rest : List Task) (turns : ℕ) → SameLengths s now → length later ≤ length s.queue → SameLengths (at_entries s later (flush ∷ rest) turns) now
same_later s now later rest turns h le = record { pattern = h.pattern; hold = h.hold; queue = λ goes. cc; entries = omega (arith, h.entries) }

same_opened : (s now : MachineState) (later : List Entry) (k : ℕ) (rest : List Task) → SameLengths s now → length later ≤ length s.queue → SameLengths (at_entries s later (copy k 0 ∷ rest) s.turns) now
same_opened s now later k rest h le = record { pattern = h.pattern; hold = h.hold; queue = λ goes. cc; entries = omega (arith, h.entries) }

-- From the state s, which writes a queue with this first entry.
module _ (l : LimitsView) (g : Setting) (s : MachineState) (rest : List Task) (entry : Entry) (later : List Entry) (at : s.tasks ≡ flush ∷ rest) (queue : s.queue ≡ entry ∷ later) (f : WithinLimits l s) where
  next_entry : next_move g s ≡ flushes s rest (entry ∷ later)
  next_entry = move_at g s (flush ∷ rest) at ∙ ap (flushes s rest) queue

  shorter : length later ≤ length s.queue
  shorter = omega (arith, ap length queue)

  -- a text is written
  pub text_written : (bytes : List ℕ) (now : MachineState) (old new : SinkView) (turns : ℕ) (r : Result Unit Ended) → entry ≡ text_entry bytes → turns ≡ s.turns → SameLengths s now → s.lines ≡ now.lines →
      PutsBytes old new (line_to 0 bytes) r → MovesTo l g s (at_entries s later (flush ∷ rest) turns) now old new r
  text_written bytes now old new turns (Ok u) is same_turns same lines put =
      let next = at_entries s later (flush ∷ rest) s.turns in
      rw same_turns (ran_once l g s next old new (line_to 0 bytes) f (next_entry ∙ ap (λ e. flushes s rest (e ∷ later)) is) (fits_later l s later (flush ∷ rest) s.turns f shorter f.turns) put)
  text_written bytes now old new turns (Err end) is same_turns same lines put =
      let next = at_entries s later (flush ∷ rest) s.turns in
      stopped_writing l g s next now old new (line_to 0 bytes) end f (next_entry ∙ ap (λ e. flushes s rest (e ∷ later)) is) (fits_later l s later (flush ∷ rest) s.turns f shorter f.turns)
      (same_later s now later rest s.turns same shorter) lines put

  -- a file is written, by a call from the state in which it comes first
  pub file_written : (k : ℕ) (now : MachineState) (old new : SinkView) (turns : ℕ) (r : Result Unit Ended) → entry ≡ file_entry k → SameLengths s now →
      (WithinLimits l (at_entries s later (copy k 0 ∷ flush ∷ rest) s.turns) → SameLengths (at_entries s later (copy k 0 ∷ flush ∷ rest) s.turns) now →
      MovesTo l g (at_entries s later (copy k 0 ∷ flush ∷ rest) s.turns) (at_entries s later (flush ∷ rest) turns) now old new r) →
      MovesTo l g s (at_entries s later (flush ∷ rest) turns) now old new r
  file_written k now old new turns r is same call =
      let m = at_entries s later (copy k 0 ∷ flush ∷ rest) s.turns in
      let fits = fits_later l s later (copy k 0 ∷ flush ∷ rest) s.turns f shorter f.turns in
      let opened = ran_quietly l g s m old f (next_entry ∙ ap (λ e. flushes s rest (e ∷ later)) is) fits in
      go r opened (call fits (same_opened s now later k (flush ∷ rest) same shorter))
    where
      go : (r : Result Unit Ended) → Ran l g s (at_entries s later (copy k 0 ∷ flush ∷ rest) s.turns) old old →
          MovesTo l g (at_entries s later (copy k 0 ∷ flush ∷ rest) s.turns) (at_entries s later (flush ∷ rest) turns) now old new r →
          MovesTo l g s (at_entries s later (flush ∷ rest) turns) now old new r
      go (Ok u) opened h = MakesMoves-then l g s _ _ old old new (Ok u) opened refl h
      go (Err end) opened h = MakesMoves-then l g s _ _ old old new (Err end) opened refl h

-- The first t moves from the state s led to the state m. None of them starts a cycle.
pub record Reached (l : LimitsView) (g : Setting) (s m : MachineState) (old new : SinkView) : Type 0 where
  pub t : ℕ
  pub is : after g s t ≡ m
  pub one : InOneCycle g s (t + 1)
  pub within : StaysWithin l g s t
  pub gained : WereSent old new (written g s t)

pub reached_none : (l : LimitsView) (g : Setting) (s : MachineState) (sinks : SinkView) → WithinLimits l s → Reached l g s s sinks sinks
reached_none l g s sinks f = record { t = 0; is = after_none g s; one = one_single g s; within = within_none l g s f; gained = rw written_none (WereSent-none sinks) }

-- a call that makes moves from there, within the cycle
pub reached_more : (l : LimitsView) (g : Setting) (s m m' : MachineState) (old mid new : SinkView) → Reached l g s m old mid → Ran l g m m' mid new → starts_cycle m'.tasks ≡ false → Reached l g s m' old new
reached_more l g s m m' old mid new a b goes =
    let h : Ran l g (after g s a.t) m' mid new = rw a.is b in
    let at = after-add g s a.t h.t ∙ h.is in
    record {
      t = a.t + h.t;
      is = at;
      one = InOneCycle-more g s (a.t + h.t) (InOneCycle-add g s a.t h.t a.one h.one) (ap (λ (m : MachineState). starts_cycle m.tasks) at ∙ goes);
      within = StaysWithin-add l g s a.t h.t a.within h.within;
      gained = rw written-add (WereSent-append a.gained h.sinks);
    }

-- the last call
pub reached_last : (l : LimitsView) (g : Setting) (s m now : MachineState) (old mid new : SinkView) (r : Result Unit Ended) → Reached l g s m old mid → MakesMoves l g m now mid new r → MakesMoves l g s now old new r
reached_last l g s m now old mid new r a b =
    chain l g s now old mid new a.t r a.within a.one a.gained (rw a.is b)

-- a queue before its first entry is written
pub flush_begun : (l : LimitsView) (g : Setting) (s : MachineState) (later : List Entry) (rest : List Task) (turns : ℕ) (sinks : SinkView) → s.tasks ≡ flush ∷ rest → s.queue ≡ later → s.turns ≡ turns → WithinLimits l s →
    Reached l g s (at_entries s later (flush ∷ rest) turns) sinks sinks
flush_begun l g s later rest turns sinks at queue same f =
    let is : s ≡ at_entries s later (flush ∷ rest) turns =
    ap (λ q. at_entries s q s.tasks s.turns) queue ∙ ap (λ ts. at_entries s later ts s.turns) at ∙ ap (λ n. at_entries s later (flush ∷ rest) n) same in
    rw (← is) (reached_none l g s sinks f)

-- a queue whose entries all were written
pub flush_done : (l : LimitsView) (g : Setting) (s : MachineState) (later : List Entry) (rest : List Task) (turns : ℕ) (old new : SinkView) → WithinLimits l s → turns ≤ l.turns → later ≡ [] →
    Reached l g s (at_entries s later (flush ∷ rest) turns) old new → Ran l g s (at_entries s [] rest turns) old new
flush_done l g s later rest turns old new f most none a =
    let m = at_entries s [] (flush ∷ rest) turns in
    let here = fits_later l s [] (flush ∷ rest) turns f (omega arith) most in
    let there = fits_later l s [] rest turns f (omega arith) most in
    reached_last l g s m (at_entries s [] rest turns) old new new (Ok tt) (rw none at a)
    (ran_quietly l g m (at_entries s [] rest turns) new here (move_at g m (flush ∷ rest) refl) there)

-- the entry of a command that has this action
pub entry_is : (texts : List (List ℕ)) (o : Option Command) (action : Action) → HasAction o action → entry_by texts o ≡ entry_for texts action
entry_is texts None action h = absurd h
entry_is texts (Some c) action h = ap (entry_for texts) h
