-- How calls that follow one another leave what they were given.
use Rattle.std.proofs.Common.{◌≡◌, ℕ, ◌+◌, ◌≤◌, ◌<◌, Bool, List, [], ◌∷◌, Option, Result, Ok, Err, refl, ap, arith}
use Rattle.std.specs.Borrow.{GName}
use Rattle.std.proofs.KnownBytes.{Keeps-refl, Keeps-trans}
use Rattle.sedspace.specs.Stream.{Stream}
use Rattle.std.specs.Prelude.{OnOk}
use Rattle.sedacts.specs.State.{do_at, MachineState}
use Rattle.sedengine.specs.SubstituteCalls.{same_but_replaced}
use Rattle.sedscript.specs.declared.types.Action.{Action}
use Rattle.sedscript.specs.declared.types.Action.TheVariants.{Block}
use Rattle.sedengine.specs.Passing.{passed_over}
use Rattle.sedengine.specs.Judging.{reached_with}
use Rattle.sedacts.specs.Calls.{Delivers, NamesNone, ReadsLines, WritesAll}
use Rattle.sedacts.specs.Meters.{SinkView}
use Rattle.sedacts.specs.Run.{SameRun, RunState}
use Rattle.sedengine.specs.Fetching.{brought}
use Rattle.sedengine.specs.Inside.{run_state_of}
use Rattle.sedengine.specs.Queueing.{flushed, with_turns}
use Rattle.sedengine.specs.Advancing.{LeavesGiven, LeavesLines, costs, weight}
use Rattle.sedspace.specs.declared.lines.Got.{Got}
use Rattle.sedspace.specs.declared.lines.Got.TheVariants.{End, Line}
use Rattle.sedacts.specs.declared.ends.Ended.{Ended}
use Rattle.sedengine.specs.declared.machine.Machine.TheInside.{Inside}
use Rattle.sedengine.proofs.Runs.{SameRun-then, same_seen}
use Rattle.sedacts.proofs.Streams.{ReadsLines-none, ReadsLines-then, ReadsLines-unread}
use Rattle.sedacts.proofs.Writing.{Delivers-none, Delivers-quiet, Delivers-then, writes_alone}

module _ {R O T : Type 0} {remaining : R → Option (List ℕ)} {failures : R → ℕ} {reference : R → List GName} {tally : O → SinkView} {count : O → ℕ} {text : T → ℕ → Option (List ℕ)} where
  pub leaves_none : {e : RunState} {l : Stream R} {o : O} {t : T} → LeavesLines remaining failures reference tally count text e e l l o o t t (Ok tt)
  leaves_none = record { input = ReadsLines-none _ _ _ _; output = Delivers-none _ _ _; same = record { script = refl; same_limits = refl }; kept = λ j. Keeps-refl _ }

  pub leaves_then : {e1 e2 e3 : RunState} {l1 l2 l3 : Stream R} {o1 o2 o3 : O} {t1 t2 t3 : T} {r : Result Unit Ended} → LeavesLines remaining failures reference tally count text e1 e2 l1 l2 o1 o2 t1 t2 (Ok tt) →
      LeavesLines remaining failures reference tally count text e2 e3 l2 l3 o2 o3 t2 t3 r → LeavesLines remaining failures reference tally count text e1 e3 l1 l3 o1 o3 t1 t3 r
  leaves_then h k = record {
    input = ReadsLines-then _ _ _ _ _ _ _ h.input k.input;
    output = Delivers-then _ _ _ _ _ _ h.output k.output;
    same = SameRun-then h.same k.same;
    kept = λ j. Keeps-trans _ _ _ (h.kept j) (k.kept j);
  }

  -- a call that takes no line
  pub leaves_unread : {e e' : RunState} {l : Stream R} {o o' : O} {t t' : T} {r : Result Unit Ended} → LeavesGiven tally count text e e' o o' t t' r → LeavesLines remaining failures reference tally count text e e' l l o o' t t' r
  leaves_unread h = record { input = ReadsLines-unread _ _ _ _ _ h.devices.input; output = h.devices.output; same = h.same; kept = h.kept }

  -- one that reads no text
  pub leaves_texts : {e e' : RunState} {l l' : Stream R} {o o' : O} {t : T} {r : Result Unit Ended} → ReadsLines remaining failures reference l l' r → Delivers tally count o o' r → SameRun e e' →
      LeavesLines remaining failures reference tally count text e e' l l' o o' t t r
  leaves_texts input output same = record { input = input; output = output; same = same; kept = λ j. Keeps-refl _ }

-- Of calls that act without a line: how they leave what they were given.
module _ {O T : Type 0} {tally : O → SinkView} {count : O → ℕ} {text : T → ℕ → Option (List ℕ)} where
  -- one that writes nothing
  pub leaves_quiet : {e e' : RunState} {o : O} {t : T} {r : Result Unit Ended} → NamesNone r → SameRun e e' → LeavesGiven tally count text e e' o o t t r
  leaves_quiet h same = record { devices = record { output = Delivers-quiet _ _ _ _ h.output; input = h.input }; same = same; kept = λ j. Keeps-refl _ }

  -- one that ends the run where it is
  pub leaves_stopped : {e : RunState} {o : O} {t : T} {end : Ended} → NamesNone {T = Unit {0}} (Err end) → LeavesGiven tally count text e e o o t t (Err end)
  leaves_stopped h = leaves_quiet h (record { script = refl; same_limits = refl })

  -- one that writes alone
  pub leaves_written : {e : RunState} {o o' : O} {t : T} {out : List (ℕ × ℕ)} {r : Result Unit Ended} → WritesAll tally count o o' out r → LeavesGiven tally count text e e o o' t t r
  leaves_written h = record { devices = writes_alone h; same = record { script = refl; same_limits = refl }; kept = λ j. Keeps-refl _ }

  -- a call on an engine of the same script and limits, made of the fields a
  pub leaves_seen : (a : Inside) (e e1 : RunState) {e' : RunState} {o o' : O} {t t' : T} {r : Result Unit Ended} → run_state_of a ≡ e → e1.script ≡ a.script → e1.limits ≡ a.limits → LeavesGiven tally count text e1 e' o o' t t' r → LeavesGiven tally count text e e' o o' t t' r
  leaves_seen a e e1 seen script limits h = record { devices = h.devices; same = SameRun-then (same_seen a e e1 seen script limits) h.same; kept = h.kept }

  -- one that wrote before it
  pub leaves_after : {e e' : RunState} {o1 o2 o3 : O} {t t' : T} {r : Result Unit Ended} → Delivers tally count o1 o2 (Ok tt) → LeavesGiven tally count text e e' o2 o3 t t' r → LeavesGiven tally count text e e' o1 o3 t t' r
  leaves_after first h = record { devices = record { output = Delivers-then _ _ _ _ _ _ first h.devices.output; input = h.devices.input }; same = h.same; kept = h.kept }

-- a command that goes on where it is
pub falls_none : {n : ℕ} → n ≤ n + 8
falls_none = omega arith

-- a command was reached, which takes a turn, and acted
pub falls_reached : (e e1 e2 : RunState) (k : ℕ) (ranges : List Bool) (used : Option ℕ) (r : Result Unit Ended) → e1 ≡ reached_with e k ranges used → e.state.tasks ≡ do_at k ∷ [] → e.state.turns < e.limits.turns → weight e2 ≤ weight e1 + 8 → OnOk r (weight e2 < weight e)
falls_reached e e1 e2 k ranges used (Ok u) came at more h =
    let was : costs e.state.tasks ≡ 2 = ap costs at in
    let now : weight e2 ≤ weight (reached_with e k ranges used) + 8 = rw came at h in
    omega arith
falls_reached e e1 e2 k ranges used (Err end) came at more h = tt

pub same_reached : (e e1 : RunState) (k : ℕ) (ranges : List Bool) (used : Option ℕ) → e1 ≡ reached_with e k ranges used → SameRun e e1
same_reached e e1 k ranges used came = rw came (record { script = refl; same_limits = refl })

-- a command was passed over
pub falls_passed : (e e' : RunState) (action : Action) → e' ≡ passed_over e action → weight e' ≤ weight e + 8
falls_passed e e' (Block next) is = rw is (omega arith)
falls_passed e e' other is = rw is falls_none

pub same_passed : (e e' : RunState) (action : Action) → e' ≡ passed_over e action → SameRun e e'
same_passed e e' (Block next) is = rw is (record { script = refl; same_limits = refl })
same_passed e e' other is = rw is (record { script = refl; same_limits = refl })

-- a substitution replaced something, or nothing
pub falls_replaced : (e e' : RunState) (s : MachineState) → e' ≡ same_but_replaced e s → weight e' ≤ weight e
falls_replaced e e' s is = rw is (omega arith)

pub same_replaced : (e e' : RunState) (s : MachineState) → e' ≡ same_but_replaced e s → SameRun e e'
same_replaced e e' s is = rw is (record { script = refl; same_limits = refl })

-- an engine that weighs as much as the one that the fields a stand for
pub falls_seen : (a : Inside) (e e1 e' : RunState) → run_state_of a ≡ e → weight e1 ≡ weight (run_state_of a) → weight e' ≤ weight e1 + 8 → weight e' ≤ weight e + 8
falls_seen a e e1 e' seen same h = let was = ap weight seen in omega arith

pub falls_kept : (a : Inside) (e e1 e' : RunState) → run_state_of a ≡ e → weight e1 ≡ weight (run_state_of a) → weight e' ≤ weight e1 → weight e' ≤ weight e
falls_kept a e e1 e' seen same h = let was = ap weight seen in omega arith

pub falls_more : {m n : ℕ} → n ≤ m → n ≤ m + 8
falls_more h = omega arith

pub falls_then : {k m n : ℕ} → m ≤ k → n ≤ m → n ≤ k + 8
falls_then h i = omega arith

-- turns were taken, and the queue was written
pub falls_flushed : (e e' : RunState) (turns : ℕ) → e' ≡ flushed e turns → e.state.turns ≤ turns → weight e' ≤ weight e
falls_flushed e e' turns is later = rw is (omega arith)

pub same_flushed : (e e' : RunState) (turns : ℕ) → e' ≡ flushed e turns → SameRun e e'
same_flushed e e' turns is = rw is (record { script = refl; same_limits = refl })

-- turns were taken, and then the end came
pub falls_turned : (e e' : RunState) (turns : ℕ) → e' ≡ with_turns e turns → e.state.turns ≤ turns → weight e' ≤ weight e
falls_turned e e' turns is later = rw is (omega arith)

pub same_turned : (e e' : RunState) (turns : ℕ) → e' ≡ with_turns e turns → SameRun e e'
same_turned e e' turns is = rw is (record { script = refl; same_limits = refl })

-- a line was brought, or there was none
pub same_brought : (e e' : RunState) (got : Got) → e' ≡ brought e got → SameRun e e'
same_brought e e' Line is = rw is (record { script = refl; same_limits = refl })
same_brought e e' End is = rw is (record { script = refl; same_limits = refl })

pub falls_brought : (e e' : RunState) (got : Got) → e' ≡ brought e got → weight e' ≤ weight e
falls_brought e e' Line is = rw is (omega arith)
falls_brought e e' End is = rw is (omega arith)
