-- A run: calls that make moves, one after another, up to the end.
use Rattle.std.proofs.Common.{subst, ◌≡◌, ℕ, ◌<◌, ◌+◌, ◌≤◌, inl, inr, true, List, ◌++◌, length, [], Option, Some, None, Ok, Err, refl, sym, ap, ◌∙◌, arith, append_assoc}
use Rattle.std.specs.Prelude.{max}
use Rattle.sedspace.specs.Stream.{Stream, left, lines_left}
use Rattle.sedspace.specs.Reading.{TakesAtMost}
use Rattle.sedacts.specs.State.{LimitsView, MachineState, Setting, setting_of}
use Rattle.sedacts.specs.Move.{after, written}
use Rattle.sedacts.specs.Meters.{WereSent, SinkView}
use Rattle.sedacts.specs.Ends.{WithinLimits, StaysWithin, named_sink, size_of, LosesPartAfter}
use Rattle.sedacts.specs.Held.{HoldsAt, SameLengths}
use Rattle.sedengine.specs.Inside.{run_state_of}
use Rattle.sedacts.specs.Run.{SameRun, RunState, run_setting, at_lines, lost, input_of, TakesLeft, CameToEnd, Cycled, InOneCycle, starts_cycle}
use Rattle.sedacts.specs.DevicesAfter.{more_at}
use Rattle.sedacts.specs.Steps.{Ran}
use Rattle.sedacts.specs.Bringing.{TakesLines}
use Rattle.sedengine.specs.Advancing.{Halted, StepsOf}
use Rattle.sedacts.specs.declared.ends.Ended.{Ended}
use Rattle.sedengine.specs.declared.machine.Machine.TheInside.{Inside}
use Rattle.sedacts.specs.declared.ends.Ended.TheVariants.{InputBroken}
use Rattle.sedacts.proofs.Sending.{WereSent-append, WereSent-none}
use Rattle.std.specs.Io.KnownBytes.{prepend_known}
use Rattle.std.proofs.KnownBytes.{prepend_known-nil}
use Rattle.sedacts.proofs.Streams.{LosesPartAfter-bytes, LosesPartAfter-takes, LosesPartAfter-then, TakesLines-then, TakesAtMost-more, source_takes, lines_same, size_of-append}
use Rattle.sedacts.proofs.Moves.{after-add, written-add, StaysWithin-add, Cause-add, HoldsAt-add, InOneCycle-add, within_none, after_none, written_none}

same_without : (s : MachineState) (e : RunState) (ls : List (List ℕ)) → SameLengths s (at_lines e ls) → SameLengths s e.state
same_without s e ls h = record { pattern = h.pattern; hold = h.hold; queue = h.queue; entries = h.entries }

-- the lengths don't depend on the lines
pub without_lines : (g : Setting) (s : MachineState) (t : ℕ) (e : RunState) (ls : List (List ℕ)) (o : Option ℕ) → HoldsAt g s t (at_lines e ls) o → HoldsAt g s t e.state o
without_lines g s t e ls None h = same_without _ e ls h
without_lines g s t e ls (Some k) (inl h) = inl (same_without _ e ls h)
without_lines g s t e ls (Some k) (inr h) = inr (same_without _ e ls h)

-- What the first t moves led to: `at` is where the lines are, `from` where they were.
pub record Reached {R : Type 0} (remaining : R → Option (List ℕ)) (from at : Stream R) (l : LimitsView) (g : Setting) (s : MachineState) (e : RunState) (old new : SinkView) : Type 0 where
  pub t : ℕ
  pub rest : List (List ℕ)
  pub taken : TakesLines remaining from at s.lines rest
  pub is : after g s t ≡ at_lines e rest
  pub within : StaysWithin l g s t
  pub gained : WereSent old new (written g s t)

abbrev pub Reached-none : {R : Type 0} (remaining : R → Option (List ℕ)) (from : Stream R) (l : LimitsView) (g : Setting) (e : RunState) (ls : List (List ℕ)) (sinks : SinkView) →
    lines_left remaining from ≡ Some ls → WithinLimits l (at_lines e ls) → Reached remaining from from l g (at_lines e ls) e sinks sinks
Reached-none {R} remaining from l g e ls sinks known f = record {
  t = 0;
  rest = ls;
  taken = lines_same remaining from ls known;
  is = after_none g (at_lines e ls);
  within = within_none l g (at_lines e ls) f;
  gained = rw written_none (WereSent-none sinks);
}

pub same_setting : (old new : RunState) (files : ℕ → List ℕ) → SameRun old new → run_setting new files ≡ run_setting old files
same_setting old new files s = ap (λ p. setting_of p files) s.script

-- the engine that fields with the same script and the same limits stand for
pub same_seen : (a : Inside) (e e' : RunState) → run_state_of a ≡ e → e'.script ≡ a.script → e'.limits ≡ a.limits → SameRun e e'
same_seen a e e' seen script limits = rw (← seen) (record { script = script; same_limits = limits })

pub SameRun-then : {a b c : RunState} → SameRun a b → SameRun b c → SameRun a c
SameRun-then s t = record { script = t.script ∙ s.script; same_limits = t.same_limits ∙ s.same_limits }

-- what was taken from the source, by what was taken of all that was still to come
pub takes_of : {R : Type 0} (remaining : R → Option (List ℕ)) (from to : Stream R) (l : LimitsView) (g : Setting) (s : MachineState) (t n m : ℕ) (lines : List (List ℕ)) → s.lines ≡ lines ++ (after g s t).lines →
    LosesPartAfter (left remaining from) (left remaining to) (size_of lines) n → (k : ℕ) × TakesAtMost (remaining from.source) (remaining to.source) k →
    length to.ahead ≤ max (length from.ahead) l.look → n + l.look ≤ m → TakesLeft g s (input_of remaining from) (input_of remaining to) n m t
takes_of {R} remaining from to l g s t n m lines are gone shrinks ahead most = record {
  input = record {
    lines = lines;
    are = are;
    bytes = TakesAtMost-more _ _ _ _ (omega arith) (source_takes from.ahead to.ahead (remaining from.source) (remaining to.source) _ l.look shrinks (LosesPartAfter-takes _ _ _ _ gone) ahead);
  };
  all = gone;
}

pub lost_more : (l : LimitsView) (end : Ended) → lost l end + l.look ≤ more_at l end
lost_more l InputBroken = omega arith
lost_more l other = omega arith

-- The run that began with the engine a and the lines `from`, and came to the engine e.
module _ {R : Type 0} (remaining : R → Option (List ℕ)) (from at to : Stream R) (files : ℕ → List ℕ) (a : RunState) (s : MachineState) (e : RunState) (old mid new : SinkView) (same : SameRun a e)
    (r : Reached remaining from at a.limits (run_setting a files) s e old mid) where
  -- what a call answers, for the run's own limits, from the state reached
  pub ran_on : (e' : RunState) (rest : List (List ℕ)) → Ran e.limits (run_setting e files) (at_lines e r.rest) (at_lines e' rest) mid new → Ran a.limits (run_setting a files) (after (run_setting a files) s r.t) (at_lines e' rest) mid new
  ran_on e' rest h =
      rw r.is (rw (← (same_setting a e files same)) (rw (← same.same_limits) h))

  pub halted_on : (e' : RunState) (end : Ended) → Halted remaining at to e.limits (run_setting e files) (at_lines e r.rest) e' mid new end →
      Halted remaining at to a.limits (run_setting a files) (after (run_setting a files) s r.t) e' mid new end
  halted_on e' end h =
      rw r.is (rw (← (same_setting a e files same)) (rw (← same.same_limits) h))

  abbrev pub step_on : (e' : RunState) → StepsOf remaining at to r.rest e.limits (run_setting e files) e e' mid new (Ok tt) → Reached remaining from to a.limits (run_setting a files) s e' old new
  step_on e' (rest, taken, ran) =
      let g : Setting = run_setting a files in
      let h = ran_on e' rest ran in
      record {
        t = r.t + h.t;
        rest = rest;
        taken = TakesLines-then remaining from at to s.lines r.rest rest r.taken taken;
        is = after-add g s r.t h.t ∙ h.is;
        within = StaysWithin-add a.limits g s r.t h.t r.within h.within;
        gained = rw written-add (WereSent-append r.gained h.sinks);
      }

  abbrev pub stop_on : (e' : RunState) (end : Ended) → StepsOf remaining at to r.rest e.limits (run_setting e files) e e' mid new (Err end) →
      (k : ℕ) × TakesAtMost (remaining from.source) (remaining to.source) k → length to.ahead ≤ max (length from.ahead) from.read_ahead → from.read_ahead ≡ a.limits.look → (end ≡ InputBroken → to.ahead ≡ []) →
      (out : List (ℕ × ℕ)) × WereSent old new out × CameToEnd a.limits (run_setting a files) s out (input_of remaining from) (input_of remaining to) e'.state end
  stop_on e' end halted shrinks ahead look drained =
      let g : Setting = run_setting a files in
      let h = halted_on e' end halted in
      let u : ℕ = h.stopped.t in
      let rest : r.rest ≡ (after g s r.t).lines = sym (ap (λ (x : MachineState). x.lines) r.is) in
      let are : s.lines ≡ (r.taken.lines ++ h.lines) ++ (after g s (r.t + u)).lines =
      r.taken.are ∙ ap (λ x. r.taken.lines ++ x) (rest ∙ h.are ∙ ap (λ x. h.lines ++ x) (sym h.stopped.lines ∙ ap (λ (x : MachineState). x.lines) (sym (after-add g s r.t u)))) ∙ sym (append_assoc r.taken.lines h.lines _) in
      let sizes : size_of r.taken.lines + size_of h.lines ≤ size_of (r.taken.lines ++ h.lines) = let e = size_of-append r.taken.lines h.lines in omega arith in
      let all = LosesPartAfter-then (left remaining from) (left remaining at) (left remaining to) _ _ _ _ sizes r.taken.bytes h.bytes in (
        written g s r.t ++ h.stopped.out,
        WereSent-append r.gained h.stopped.sinks,
        record {
          t = r.t + u;
          cause = Cause-add a.limits g s h.stopped.out end r.t u r.within h.stopped.cause;
          lines_taken = takes_of remaining from to a.limits g s (r.t + u) (lost a.limits end) (more_at a.limits end) (r.taken.lines ++ h.lines) are all shrinks (rw look at ahead) (lost_more a.limits end);
          broken = λ is.
              let L : Ended → Type 0 = λ end. LosesPartAfter (left remaining from) (left remaining to) (size_of (r.taken.lines ++ h.lines)) (lost a.limits end) in
              let all_left : left remaining to ≡ remaining to.source = ap (λ bs. prepend_known bs (remaining to.source)) (drained is) ∙ prepend_known-nil _ in
              (r.taken.lines ++ h.lines, are, rw (← all_left) (subst L is all));
          holds = HoldsAt-add g s e'.state r.t u (named_sink end) (without_lines g (after g s r.t) u e' h.rest (named_sink end) h.stopped.holds);
        },
      )

  -- no cycle starts meanwhile
  pub one_on : (e' : RunState) (h : StepsOf remaining at to r.rest e.limits (run_setting e files) e e' mid new (Ok tt)) → InOneCycle (run_setting a files) s (r.t + 1) → InOneCycle (run_setting a files) s (step_on e' h).t
  one_on e' (rest, taken, ran) one = let h = ran_on e' rest ran in InOneCycle-add (run_setting a files) s r.t h.t one h.one

  pub some_on : (e' : RunState) (h : StepsOf remaining at to r.rest e.limits (run_setting e files) e e' mid new (Ok tt)) → 0 < (step_on e' h).t
  some_on e' (rest, taken, ran) = let h = ran_on e' rest ran in let some = h.some in omega arith

  pub one_stop : (e' : RunState) (end : Ended) (h : StepsOf remaining at to r.rest e.limits (run_setting e files) e e' mid new (Err end)) → InOneCycle (run_setting a files) s (r.t + 1) →
      InOneCycle (run_setting a files) s (r.t + (halted_on e' end h).stopped.t + 1)
  one_stop e' end halted one =
      let h = halted_on e' end halted in
      let all : r.t + h.stopped.t + 1 ≡ r.t + (h.stopped.t + 1) = omega arith in
      rw all (InOneCycle-add (run_setting a files) s r.t (h.stopped.t + 1) one h.stopped.one)

-- a cycle was made
pub cycled : {R : Type 0} (remaining : R → Option (List ℕ)) (from to : Stream R) (l : LimitsView) (g : Setting) (s : MachineState) (e : RunState) (old new : SinkView) →
    (r : Reached remaining from to l g s e old new) → 0 < r.t → InOneCycle g s r.t → starts_cycle e.state.tasks ≡ true →
    (k : ℕ) × TakesAtMost (remaining from.source) (remaining to.source) k → length to.ahead ≤ max (length from.ahead) from.read_ahead → from.read_ahead ≡ l.look →
    (rest : List (List ℕ)) × (lines_left remaining to ≡ Some rest) × Cycled l g s (written g s r.t) (input_of remaining from) (input_of remaining to) (at_lines e rest)
cycled {R} remaining from to l g s e old new r some one starts shrinks ahead look =
    let are : s.lines ≡ r.taken.lines ++ (after g s r.t).lines = r.taken.are ∙ ap (λ x. r.taken.lines ++ x) (sym (ap (λ (x : MachineState). x.lines) r.is)) in (
      r.rest,
      r.taken.known,
      record {
        t = r.t;
        some = some;
        is = r.is;
        next = starts;
        one = one;
        within = r.within;
        wrote = refl;
        lines_taken = takes_of remaining from to l g s r.t 0 l.look r.taken.lines are (LosesPartAfter-bytes _ _ _ r.taken.bytes) shrinks (rw look at ahead) (omega arith);
      },
    )
