-- Moves one after another.
use Rattle.std.proofs.Common.{◌≡◌, ℕ, suc, zero, ◌<◌, ◌+◌, ◌-◌, ◌≤◌, ◌⊎◌, inl, inr, false, List, [], ◌++◌, length, take, Option, Some, None, Result, Ok, Err, refl, sym, ap, ◌∙◌, arith, length-append, append-nil, append_assoc, add-zero, add-suc}
use Rattle.std.proofs.Math.Seq.{take-append-add}
use Rattle.sedacts.specs.State.{LimitsView, Task, MachineState, Move, Setting}
use Rattle.sedacts.specs.Move.{next_move, first_task, after, written, writing, quietly}
use Rattle.sedacts.specs.Meters.{WereSent, SinkView}
use Rattle.sedacts.specs.Calls.{PutsBytes}
use Rattle.sedacts.specs.Ends.{WithinLimits, StaysWithin, IsCause, BrokenOff, RanWhole, named_sink}
use Rattle.sedacts.specs.Held.{HoldsAt, SameLengths}
use Rattle.sedacts.specs.Run.{InOneCycle, starts_cycle}
use Rattle.sedacts.specs.Steps.{StopsTask, Ran, RanToEnd, MakesMoves, WholeOrBrokenOff, next_or_stay, writes_of}
use Rattle.sedacts.specs.declared.ends.Ended.{Ended}
use Rattle.sedacts.proofs.Causes.{cause_is}
use Rattle.sedacts.proofs.Sending.{WereSent-append, WereSent-none}
use Rattle.sedacts.proofs.Writing.{slice_get-append_add}

-- the move by the first task
pub move_at : (g : Setting) (s : MachineState) (ts : List Task) → s.tasks ≡ ts → next_move g s ≡ first_task g s ts
unfolding next_move
move_at g s ts h = ap (first_task g s) h

-- a state has its own lengths
pub same_self : (s : MachineState) → SameLengths s s
same_self s = record { pattern = refl; hold = refl; queue = λ goes. refl; entries = omega arith }

-- no move, and one
pub after_none : (g : Setting) (s : MachineState) → after g s 0 ≡ s
unfolding after
after_none g s = refl

pub written_none : (g : Setting) (s : MachineState) → written g s 0 ≡ []
unfolding written
written_none g s = refl

after_one : (g : Setting) (s : MachineState) (m : Move) → next_move g s ≡ Some m → after g s 1 ≡ m.next
unfolding after
after_one g s m h = ap (next_or_stay s) h

written_one : (g : Setting) (s : MachineState) (m : Move) → next_move g s ≡ Some m → written g s 1 ≡ m.writes
unfolding written after
written_one g s m h = ap writes_of h

last_or_less : (k t : ℕ) → k ≤ suc t → (k ≤ t) ⊎ (k ≡ suc t)
last_or_less zero t h = inl (omega arith)
last_or_less (suc k) zero h = inr (omega arith)
last_or_less (suc k) (suc t) h = elim (last_or_less k t (omega arith)) [ inl less ↦ inl (omega arith) | inr same ↦ inr (ap suc same) ]

pub within_none : (l : LimitsView) (g : Setting) (s : MachineState) → WithinLimits l s → StaysWithin l g s 0
unfolding StaysWithin after
within_none l g s f = λ k h. let none : k ≡ 0 = omega arith in rw none f

within_one : (l : LimitsView) (g : Setting) (s : MachineState) → WithinLimits l s → WithinLimits l (after g s 1) → StaysWithin l g s 1
unfolding StaysWithin after
within_one l g s f n = λ k h. elim (last_or_less k 0 h) [ inl less ↦ (let none : k ≡ 0 = omega arith in rw none f) | inr same ↦ rw same n ]

pub one_single : (g : Setting) (s : MachineState) → InOneCycle g s 1
one_single g s = λ k some k_lt. absurd (omega arith)

-- more moves after the first t
pub after-add : (g : Setting) (s : MachineState) (t u : ℕ) → after g s (t + u) ≡ after g (after g s t) u
unfolding after
after-add g s t zero = rw add-zero refl
after-add g s t (suc u) = rw add-suc (ap (λ x. next_or_stay x (next_move g x)) (after-add g s t u))

pub written-add : (g : Setting) (s : MachineState) (t u : ℕ) → written g s (t + u) ≡ written g s t ++ written g (after g s t) u
unfolding written
written-add g s t zero = rw (add-zero, append-nil) refl
written-add g s t (suc u) =
    rw (add-suc, after-add) (ap (λ w. w ++ writes_of (next_move g (after g (after g s t) u))) (written-add g s t u) ∙ append_assoc (written g s t) (written g (after g s t) u) _)

pub StaysWithin-add : (l : LimitsView) (g : Setting) (s : MachineState) (t u : ℕ) → StaysWithin l g s t → StaysWithin l g (after g s t) u → StaysWithin l g s (t + u)
unfolding StaysWithin
StaysWithin-add l g s t zero v w = λ k h. v k (omega arith)
StaysWithin-add l g s t (suc u) v w = λ k h. elim (last_or_less k (t + u) (omega arith)) [ inl less ↦ StaysWithin-add l g s t u v (λ j i. w j (omega arith)) k less | inr same ↦ rw (same, ← add-suc, after-add) (w (suc u) (omega arith)) ]

less_or_more : (k t : ℕ) → (k < t + 1) ⊎ (t < k)
less_or_more zero t = inl (omega arith)
less_or_more (suc k) zero = inr (omega arith)
less_or_more (suc k) (suc t) = elim (less_or_more k t) [ inl less ↦ inl (omega arith) | inr more ↦ inr (omega arith) ]

pub InOneCycle-add : (g : Setting) (s : MachineState) (t n : ℕ) → InOneCycle g s (t + 1) → InOneCycle g (after g s t) n → InOneCycle g s (t + n)
InOneCycle-add g s t n h i = λ k some k_lt. elim (less_or_more k t) [ inl less ↦ h k some less | inr more ↦ later k more k_lt ]
  where
    later : (k : ℕ) → t < k → k < t + n → starts_cycle (after g s k).tasks ≡ false
    later k more k_lt =
        let at : k ≡ t + (k - t) = omega arith in
        rw at (rw after-add (i (k - t) (omega arith) (omega arith)))

-- none of the moves starts a cycle, the last one too
pub InOneCycle-more : (g : Setting) (s : MachineState) (t : ℕ) → InOneCycle g s t → starts_cycle (after g s t).tasks ≡ false → InOneCycle g s (t + 1)
InOneCycle-more g s zero h goes = λ k some k_lt. absurd (omega arith)
InOneCycle-more g s (suc t) h goes = λ k some k_lt. elim (last_or_less k t (omega arith)) [ inl less ↦ h k some (omega arith) | inr same ↦ rw same goes ]

-- An end that comes u moves after the first t comes after t + u moves.
WholeOrBrokenOff-add : (l : LimitsView) (g : Setting) (s : MachineState) (out : List (ℕ × ℕ)) (end : Ended) (t u : ℕ) (o : Option ℕ) → StaysWithin l g s t → WholeOrBrokenOff l g (after g s t) out end u o →
    WholeOrBrokenOff l g s (written g s t ++ out) end (t + u) o
WholeOrBrokenOff-add l g s out end t u None v h =
    record { within = StaysWithin-add l g s t u v h.within; wrote = rw (written-add, h.wrote) refl; cause = rw after-add h.cause }
WholeOrBrokenOff-add l g s out end t u (Some k) v h =
    let all : written g s (suc (t + u)) ≡ written g s t ++ written g (after g s t) (suc u) = rw (← add-suc) (written-add g s t (suc u)) in
    record {
      within = rw (← add-suc) (StaysWithin-add l g s t (suc u) v h.within);
      b = length (written g s t) + h.b;
      byte = h.byte;
      past = rw (written-add, length-append) (let p = h.past in omega arith);
      due = rw all (slice_get-append_add (written g s t) _ h.b ∙ h.due);
      wrote = rw (all, take-append-add, h.wrote) refl;
    }

pub Cause-add : (l : LimitsView) (g : Setting) (s : MachineState) (out : List (ℕ × ℕ)) (end : Ended) (t u : ℕ) → StaysWithin l g s t → IsCause l g (after g s t) out end u → IsCause l g s (written g s t ++ out) end (t + u)
Cause-add l g s out end t u v h = WholeOrBrokenOff-add l g s out end t u (named_sink end) v h

pub HoldsAt-add : (g : Setting) (s now : MachineState) (t u : ℕ) (o : Option ℕ) → HoldsAt g (after g s t) u now o → HoldsAt g s (t + u) now o
HoldsAt-add g s now t u None h = rw after-add h
HoldsAt-add g s now t u (Some k) (inl h) = inl (rw after-add h)
HoldsAt-add g s now t u (Some k) (inr h) =
    let at : after g s (suc (t + u)) ≡ after g (after g s t) (suc u) = rw (← add-suc) (after-add g s t (suc u)) in inr (rw at h)

-- what a call does after the first t moves
pub chain : (l : LimitsView) (g : Setting) (s now : MachineState) (old mid new : SinkView) (t : ℕ) (r : Result Unit Ended) → StaysWithin l g s t → InOneCycle g s (t + 1) → WereSent old mid (written g s t) →
    MakesMoves l g (after g s t) now mid new r → MakesMoves l g s now old new r
chain l g s now old mid new t (Ok u) within one gained b = let some = b.some in record {
  t = t + b.t;
  some = omega arith;
  is = after-add g s t b.t ∙ b.is;
  one = InOneCycle-add g s t b.t one b.one;
  within = StaysWithin-add l g s t b.t within b.within;
  sinks = rw written-add (WereSent-append gained b.sinks);
}
chain l g s now old mid new t (Err end) within one gained b = record {
  t = t + b.t;
  out = written g s t ++ b.out;
  sinks = WereSent-append gained b.sinks;
  cause = Cause-add l g s b.out end t b.t within b.cause;
  holds = HoldsAt-add g s now t b.t (named_sink end) b.holds;
  one = rw append_one (InOneCycle-add g s t (b.t + 1) one b.one);
  lines = ap (λ (x : MachineState). x.lines) (after-add g s t b.t) ∙ b.lines;
}
  where
    append_one : t + b.t + 1 ≡ t + (b.t + 1)
    append_one = omega arith

-- one call after another, within a cycle
pub MakesMoves-then : (l : LimitsView) (g : Setting) (s m now : MachineState) (old mid new : SinkView) (r : Result Unit Ended) → Ran l g s m old mid → starts_cycle m.tasks ≡ false →
    MakesMoves l g m now mid new r → MakesMoves l g s now old new r
MakesMoves-then l g s m now old mid new r a goes b =
    chain l g s now old mid new a.t r a.within (InOneCycle-more g s a.t a.one (rw a.is goes)) a.sinks (rw a.is b)

-- one move that writes these bytes
pub ran_once : (l : LimitsView) (g : Setting) (s now : MachineState) (old new : SinkView) (out : List (ℕ × ℕ)) → WithinLimits l s → next_move g s ≡ writing out now → WithinLimits l now → WereSent old new out → Ran l g s now old new
ran_once l g s now old new out f is n gained =
    let m : Move = record { next = now; writes = out } in
    let at : after g s 1 ≡ now = after_one g s m is in
    record {
      t = 1;
      some = omega arith;
      is = at;
      one = one_single g s;
      within = within_one l g s f (rw at n);
      sinks = rw (written_one g s m is) gained;
    }

pub ran_quietly : (l : LimitsView) (g : Setting) (s now : MachineState) (sinks : SinkView) → WithinLimits l s → next_move g s ≡ quietly now → WithinLimits l now → Ran l g s now sinks sinks
ran_quietly l g s now sinks f is n = ran_once l g s now sinks sinks [] f is n (WereSent-none sinks)

-- a sink took no more in the next move
pub stopped_writing : (l : LimitsView) (g : Setting) (s next now : MachineState) (old new : SinkView) (out : List (ℕ × ℕ)) (end : Ended) → WithinLimits l s → next_move g s ≡ writing out next → WithinLimits l next →
    SameLengths next now → s.lines ≡ now.lines → PutsBytes old new out (Err end) → RanToEnd l g s now old new end
stopped_writing l g s next now old new out end f is n same lines (k, b, byte, end_is, due, sent) =
    let m : Move = record { next = next; writes = out } in
    let at : after g s 1 ≡ next = after_one g s m is in
    let all : written g s 1 ≡ out = written_one g s m is in
    let cut : BrokenOff l g s (take b out) k 0 = record {
      within = within_one l g s f (rw at n);
      b = b;
      byte = byte;
      past = rw written_none (omega arith);
      due = rw all due;
      wrote = rw all refl;
    } in
    let last : SameLengths (after g s 1) now = rw at same in
    record {
      t = 0;
      out = take b out;
      sinks = sent;
      cause = rw end_is cut;
      holds = rw end_is (inr last);
      one = one_single g s;
      lines = ap (λ (x : MachineState). x.lines) (after_none g s) ∙ lines;
    }

-- a move that writes these bytes, as far as the sink takes them
pub moves_writing : (l : LimitsView) (g : Setting) (s now : MachineState) (old new : SinkView) (out : List (ℕ × ℕ)) (r : Result Unit Ended) → WithinLimits l s → next_move g s ≡ writing out now → WithinLimits l now → s.lines ≡ now.lines → PutsBytes old new out r →
    MakesMoves l g s now old new r
moves_writing l g s now old new out (Ok u) f is n lines put = ran_once l g s now old new out f is n put
moves_writing l g s now old new out (Err end) f is n lines put = stopped_writing l g s now now old new out end f is n (same_self now) lines put

-- the end has come
pub stopped_here : (l : LimitsView) (g : Setting) (s now : MachineState) (sinks : SinkView) (end : Ended) → WithinLimits l s → named_sink end ≡ None → StopsTask l g s end → SameLengths s now → s.lines ≡ now.lines → RanToEnd l g s now sinks sinks end
stopped_here l g s now sinks end f none cause same lines =
    let whole : RanWhole l g s [] end 0 = record { within = within_none l g s f; wrote = rw written_none refl; cause = rw after_none (cause_is l g s end f cause) } in
    let here : SameLengths (after g s 0) now = rw after_none same in
    record {
      t = 0;
      out = [];
      sinks = WereSent-none sinks;
      cause = rw none whole;
      holds = rw none here;
      one = one_single g s;
      lines = ap (λ (x : MachineState). x.lines) (after_none g s) ∙ lines;
    }

-- what is said of a state's lengths holds for one with the same spaces and the same queue
same_as : (s m now : MachineState) → m.pattern ≡ now.pattern → m.hold ≡ now.hold → m.queue ≡ now.queue → SameLengths s m → SameLengths s now
same_as s m now p h q w =
    let entries = w.entries in
    let same = ap length q in
    record {
      pattern = ap length (sym p) ∙ w.pattern;
      hold = ap length (sym h) ∙ w.hold;
      queue = λ goes. ap length (sym q) ∙ w.queue goes;
      entries = omega arith;
    }

holds_as : (g : Setting) (s : MachineState) (t : ℕ) (m now : MachineState) (o : Option ℕ) → m.pattern ≡ now.pattern → m.hold ≡ now.hold → m.queue ≡ now.queue → HoldsAt g s t m o → HoldsAt g s t now o
holds_as g s t m now None p h q w = same_as (after g s t) m now p h q w
holds_as g s t m now (Some k) p h q (inl w) = inl (same_as (after g s t) m now p h q w)
holds_as g s t m now (Some k) p h q (inr w) = inr (same_as (after g s (suc t)) m now p h q w)

pub RanToEnd-as : (l : LimitsView) (g : Setting) (s m now : MachineState) (sinks sinks' : SinkView) (end : Ended) → m.pattern ≡ now.pattern → m.hold ≡ now.hold → m.queue ≡ now.queue → m.lines ≡ now.lines →
    RanToEnd l g s m sinks sinks' end → RanToEnd l g s now sinks sinks' end
RanToEnd-as l g s m now sinks sinks' end p h q lines w = record {
  t = w.t;
  out = w.out;
  sinks = w.sinks;
  cause = w.cause;
  holds = holds_as g s w.t m now (named_sink end) p h q w.holds;
  one = w.one;
  lines = w.lines ∙ lines;
}

-- a move, and what a call does after it
pub moves_then : (l : LimitsView) (g : Setting) (s m now : MachineState) (old mid new : SinkView) (out : List (ℕ × ℕ)) (r : Result Unit Ended) → WithinLimits l s → next_move g s ≡ writing out m → WithinLimits l m → WereSent old mid out → starts_cycle m.tasks ≡ false →
    MakesMoves l g m now mid new r → MakesMoves l g s now old new r
moves_then l g s m now old mid new out r f is f' gained goes h = MakesMoves-then l g s m now old mid new r (ran_once l g s m old mid out f is f' gained) goes h

pub quietly_then : (l : LimitsView) (g : Setting) (s m now : MachineState) (old new : SinkView) (r : Result Unit Ended) → WithinLimits l s → next_move g s ≡ quietly m → WithinLimits l m → starts_cycle m.tasks ≡ false →
    MakesMoves l g m now old new r → MakesMoves l g s now old new r
quietly_then l g s m now old new r f is f' goes h = moves_then l g s m now old old new [] r f is f' (WereSent-none old) goes h

-- the states at which moves began, and to which they led, are within the limits
fits_first : (l : LimitsView) (g : Setting) (s : MachineState) (t : ℕ) → StaysWithin l g s t → WithinLimits l s
unfolding StaysWithin after
fits_first l g s t w = w 0 (omega arith)

fits_last : (l : LimitsView) (g : Setting) (s : MachineState) (t : ℕ) → StaysWithin l g s t → WithinLimits l (after g s t)
unfolding StaysWithin
fits_last l g s t w = w t (omega arith)

pub ran_fits : (l : LimitsView) (g : Setting) (s now : MachineState) (sinks sinks' : SinkView) → Ran l g s now sinks sinks' → WithinLimits l s
ran_fits l g s now sinks sinks' h = fits_first l g s h.t h.within

pub ran_fits_now : (l : LimitsView) (g : Setting) (s now : MachineState) (sinks sinks' : SinkView) → Ran l g s now sinks sinks' → WithinLimits l now
ran_fits_now l g s now sinks sinks' h = rw (← h.is) (fits_last l g s h.t h.within)

stopped_within : (l : LimitsView) (g : Setting) (s : MachineState) (out : List (ℕ × ℕ)) (end : Ended) (t : ℕ) (o : Option ℕ) → WholeOrBrokenOff l g s out end t o → WithinLimits l s
stopped_within l g s out end t None h = fits_first l g s t h.within
stopped_within l g s out end t (Some k) h = fits_first l g s (suc t) h.within

pub moves_fits : (l : LimitsView) (g : Setting) (s now : MachineState) (sinks sinks' : SinkView) (r : Result Unit Ended) → MakesMoves l g s now sinks sinks' r → WithinLimits l s
moves_fits l g s now sinks sinks' (Ok u) h = ran_fits l g s now sinks sinks' h
moves_fits l g s now sinks sinks' (Err end) h = stopped_within l g s h.out end h.t (named_sink end) h.cause
