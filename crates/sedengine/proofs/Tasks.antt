-- What the engine does with its fields are moves.
use Rattle.std.proofs.Common.{◌≡◌, ℕ, suc, zero, ◌<◌, ◌+◌, ◌-◌, ◌≤◌, Bool, true, false, List, [], ◌∷◌, ◌++◌, length, map, Option, Some, None, Result, Ok, Err, refl, subst, sym, ap, ◌∙◌, arith, not, length-append}
use Rattle.std.specs.Prelude.{slice_get, is_some, OnOk, OnErr}
use Rattle.std.specs.Io.KnownBytes.{Keeps}
use Rattle.std.proofs.lemmas.List.{length-map}
use Rattle.sedscript.specs.Program.{Program}
use Rattle.sedspace.specs.Spaces.{SpaceView, QueueView}
use Rattle.sedspace.specs.declared.errors.Full.{Full}
use Rattle.sedspace.specs.Stream.{Stream, left, lines_left, TakesLine, GivesLine, NoLineLeft, FirstIsLonger, KeepsLines, LosesPart}
use Rattle.sedspace.specs.Reading.{TakesAtMost}
use Rattle.sedacts.specs.State.{LimitsView, Task, begin, rebegin, do_at, MachineState, Setting}
use Rattle.sedacts.specs.Move.{newline, next_move, start, quietly, then_do, none_left}
use Rattle.sedengine.specs.Holding.{BecomesOrFull}
use Rattle.sedacts.specs.Ends.{WithinLimits, reads, named_sink}
use Rattle.sedacts.specs.Held.{SameLengths}
use Rattle.sedacts.specs.Meters.{SinkView}
use Rattle.sedacts.specs.Run.{RunState, at_lines, run_setting, lost}
use Rattle.sedengine.specs.Advancing.{costs, weight, Halted, StepsOf}
use Rattle.sedacts.specs.Steps.{reaches, StopsTask, line_at, takes_turn, Ran, MakesMoves}
use Rattle.sedacts.specs.Bringing.{TakesLines}
use Rattle.sedengine.specs.Inside.{run_state_of, tasks_of, IsConsistent, IsEmptied}
use Rattle.sedacts.specs.Keeping.{entries_of, AllQueue}
use Rattle.sedengine.specs.declared.machine.Machine.TheInside.{Inside}
use Rattle.sedengine.specs.declared.next_step.NextStep.{NextStep}
use Rattle.sedengine.specs.declared.next_step.NextStep.TheVariants as p
use Rattle.sedacts.specs.declared.ends.Ended.{Ended}
use Rattle.sedacts.specs.declared.ends.Ended.TheVariants.{Done, PatternFull, TurnsSpent, InputBroken}
use Rattle.sedacts.proofs.Streams.{line_taken, lines_end, lines_stay, lines_same, LosesPart-none, LosesPartAfter-none, TakesAtMost-none, TakesAtMost-kept}
use Rattle.sedacts.proofs.Moves.{move_at, ran_quietly, stopped_here}
use Rattle.sedacts.proofs.BroughtLines.{longer}

pub fits_at : (a : Inside) (ls : List (List ℕ)) → length a.pattern.bytes ≤ a.limits.space → length a.hold.bytes ≤ a.limits.space → length a.queue.items ≤ a.limits.queue → a.turns ≤ a.limits.turns → WithinLimits a.limits (at_lines (run_state_of a) ls)
fits_at a ls pattern hold queue turns = record { pattern = pattern; hold = hold; queue = rw length-map queue; turns = turns }

pub fits_of : (a : Inside) (ls : List (List ℕ)) → IsConsistent a → WithinLimits a.limits (at_lines (run_state_of a) ls)
fits_of a ls i = fits_at a ls i.pattern i.hold i.queue i.turns

pub fits_tasks : (l : LimitsView) (s : MachineState) (ts : List Task) → WithinLimits l s → WithinLimits l (then_do ts s)
fits_tasks l s ts f = record { pattern = f.pattern; hold = f.hold; queue = f.queue; turns = f.turns }

seen_steps : {R : Type 0} (remaining : R → Option (List ℕ)) (old new : Stream R) (a : Inside) (e e' : RunState) (ts : List Task) (files : ℕ → List ℕ) (ls : List (List ℕ)) (sinks sinks' : SinkView) (r : Result Unit Ended) →
    run_state_of a ≡ e → e.state.tasks ≡ ts → (tasks_of a.next_step ≡ ts → StepsOf remaining old new ls a.limits (run_setting (run_state_of a) files) (run_state_of a) e' sinks sinks' r) →
    StepsOf remaining old new ls e.limits (run_setting e files) e e' sinks sinks' r
seen_steps {R} remaining old new a e e' ts files ls sinks sinks' r seen t h = rw (← seen) (h (rw (← seen) at t))

-- The end comes at once, and no line was taken.
pub halts_here : {R : Type 0} (remaining : R → Option (List ℕ)) (old new : Stream R) (l : LimitsView) (g : Setting) (s : MachineState) (e : RunState) (sinks : SinkView) (end : Ended) → WithinLimits l s → named_sink end ≡ None → StopsTask l g s end → SameLengths s e.state →
    LosesPart (left remaining old) (left remaining new) (lost l end) → Halted remaining old new l g s e sinks sinks end
halts_here {R} remaining old new l g s e sinks end f none cause same part = record {
  rest = s.lines;
  stopped = stopped_here l g s (at_lines e s.lines) sinks end f none cause (record { pattern = same.pattern; hold = same.hold; queue = same.queue; entries = same.entries }) refl;
  lines = [];
  are = refl;
  bytes = LosesPartAfter-none _ _ _ part;
}

-- Before a cycle the pattern space is empty.
emptied_at : (p : NextStep) (bytes : List ℕ) → tasks_of p ≡ begin ∷ [] → IsEmptied p bytes → bytes ≡ []
emptied_at p.Begin bytes t h = h
emptied_at (p.Do k) bytes t h = absurd (let e : do_at k ≡ begin = cc in other k e)
  where
    other : (k : ℕ) → do_at k ≡ begin → ⊥
    other k e = cc
emptied_at other bytes t h = cc

-- The fields a of an engine that is before a cycle; `sinks` are what sinks hold, of which none gains anything.
module _ {R : Type 0} (remaining : R → Option (List ℕ)) (old new : Stream R) (a : Inside) (e : RunState) (seen : run_state_of a ≡ e) (i : IsConsistent a) (at : e.state.tasks ≡ begin ∷ [])
    (ls : List (List ℕ)) (known : lines_left remaining old ≡ Some ls) (files : ℕ → List ℕ) (sinks : SinkView) where
  -- the fields that a line leads to, and those where there is none
  abbrev with : SpaceView → Inside
  with pattern = record a { next_step = p.Do 0; pattern = pattern; number = a.number + 1; replaced = false; turns = a.turns + 1 }

  abbrev without : SpaceView → Inside
  without pattern = record a { next_step = p.Ended; pattern = pattern }

  ends : (pattern : SpaceView) → ls ≡ [] → pattern ≡ a.pattern → tasks_of a.next_step ≡ begin ∷ [] → Ran a.limits (run_setting (run_state_of a) files) (at_lines (run_state_of a) ls) (at_lines (run_state_of (without pattern)) []) sinks sinks
  ends pattern none same t =
      let f : WithinLimits a.limits (at_lines (run_state_of (without a.pattern)) []) = fits_at (without a.pattern) [] i.pattern i.hold i.queue i.turns in
      rw same (ran_quietly a.limits (run_setting (run_state_of a) files) (at_lines (run_state_of a) ls) (at_lines (run_state_of (without a.pattern)) []) sinks (fits_of a ls i) (rw none (move_at _ _ _ t)) f)

  takes : (line : List ℕ) (rest : List (List ℕ)) (pattern : SpaceView) → ls ≡ line ∷ rest → pattern.bytes ≡ line → tasks_of a.next_step ≡ begin ∷ [] →
      next_move (run_setting (run_state_of a) files) (at_lines (run_state_of a) ls) ≡ quietly (at_lines (run_state_of (with pattern)) rest)
  takes line rest pattern is h t = rw (is, h) (move_at _ _ _ t)

  -- The end is asked for, and it has come.
  pub begins_last : ls ≡ [] → KeepsLines (lines_left remaining old) (lines_left remaining new) → Keeps (left remaining old) (left remaining new) →
      StepsOf remaining old new ls e.limits (run_setting e files) e (run_state_of (record a { next_step = p.Ended })) sinks sinks (Ok tt)
  begins_last none kept bytes =
      let T : List (List ℕ) → Type 0 = λ ms. TakesLines remaining old new ls ms in
      seen_steps remaining old new a e (run_state_of (without a.pattern)) (begin ∷ []) files ls sinks sinks (Ok tt) seen at
      (λ t. ([], subst T none (lines_stay remaining old new ls known kept bytes), ends a.pattern none refl t))

  pub begins_none : (n : ℕ) (pattern : SpaceView) → pattern ≡ a.pattern →
      TakesAtMost (remaining old.source) (remaining new.source) n → NoLineLeft (lines_left remaining old) → NoLineLeft (lines_left remaining new) →
      StepsOf remaining old new ls e.limits (run_setting e files) e (run_state_of (record a { next_step = p.Ended; pattern = pattern })) sinks sinks (Ok tt)
  begins_none n pattern same taken none none' =
      let r = lines_end remaining old new n ls known taken none none' in
      seen_steps remaining old new a e (run_state_of (without pattern)) (begin ∷ []) files ls sinks sinks (Ok tt) seen at (λ t. ([], r.1, ends pattern r.0 same t))

  pub begins_takes : (pattern : SpaceView) (line : List ℕ) → (a.turns ≡ a.limits.turns → ⊥) → pattern ≡ record a.pattern { bytes = a.pattern.bytes ++ line } → length pattern.bytes ≤ pattern.limit →
      TakesLine (left remaining old) (left remaining new) line → GivesLine (lines_left remaining old) (lines_left remaining new) line →
      StepsOf remaining old new ls e.limits (run_setting e files) e (run_state_of (record a { next_step = p.Do 0; pattern = pattern; number = a.number + 1; replaced = false; turns = a.turns + 1 })) sinks sinks (Ok tt)
  begins_takes pattern line turns is within bytes given =
      let r = line_taken remaining old new ls line known bytes given in
      let most = i.turns in
      let room = i.pattern_limit in
      let limit : pattern.limit ≡ a.pattern.limit = ap (λ (c : SpaceView). c.limit) is in
      seen_steps remaining old new a e (run_state_of (with pattern)) (begin ∷ []) files ls sinks sinks (Ok tt) seen at
      (λ t.
      let none : a.pattern.bytes ≡ [] = emptied_at a.next_step a.pattern.bytes t i.empty in
      let bytes : pattern.bytes ≡ line = ap (λ (c : SpaceView). c.bytes) is ∙ ap (λ bs. bs ++ line) none in (
        r.0,
        r.2,
        ran_quietly a.limits (run_setting (run_state_of a) files) (at_lines (run_state_of a) ls) (at_lines (run_state_of (with pattern)) r.0) sinks (fits_of a ls i) (takes line r.0 pattern r.1 bytes t)
            (fits_at (with pattern) r.0 (omega arith) i.hold i.queue (omega arith)),
      ))

  pub begins_stops : (pattern : SpaceView) → pattern ≡ a.pattern → (a.turns ≡ a.limits.turns → ⊥) → FirstIsLonger (lines_left remaining old) (a.pattern.limit - length a.pattern.bytes) →
      LosesPart (left remaining old) (left remaining new) a.pattern.limit →
      StepsOf remaining old new ls e.limits (run_setting e files) e (run_state_of (record a { pattern = pattern })) sinks sinks (Err (PatternFull (a.number + 1)))
  begins_stops pattern same turns long gone =
      let r = longer ls (subst (λ (o : Option (List (List ℕ))). FirstIsLonger o (a.pattern.limit - length a.pattern.bytes)) known long) in
      let limit = i.pattern_limit in
      let most = i.turns in
      let made : SpaceView = record { bytes = r.0; limit = 0 } in
      seen_steps remaining old new a e (run_state_of (record a { pattern = pattern })) (begin ∷ []) files ls sinks sinks (Err (PatternFull (a.number + 1))) seen at
      (λ t.
      let none : length a.pattern.bytes ≡ 0 = ap length (emptied_at a.next_step a.pattern.bytes t i.empty) in
      halts_here remaining old new a.limits (run_setting (run_state_of a) files) (at_lines (run_state_of a) ls) (run_state_of (record a { pattern = pattern })) sinks (PatternFull (a.number + 1)) (fits_of a ls i) refl
      (ap (line_at (at_lines (run_state_of a) ls)) (sym t), (λ _. omega arith), (record { next = at_lines (run_state_of (with made)) r.1; writes = [] }, takes r.0 r.1 made r.2 refl t, omega (arith, r.3)))
      (record { pattern = ap (λ (c : SpaceView). length c.bytes) same; hold = refl; queue = λ _. refl; entries = omega arith }) (rw i.pattern_limit at gone))

  -- A line is left, and no turn.
  pub begins_spent : not (none_left ls) ≡ true → a.turns ≡ a.limits.turns → Keeps (left remaining old) (left remaining new) →
      StepsOf remaining old new ls e.limits (run_setting e files) e e sinks sinks (Err TurnsSpent)
  begins_spent some spent kept =
      let Q : RunState → Type 0 = λ e. e.state.tasks ≡ begin ∷ [] → StepsOf remaining old new ls e.limits (run_setting e files) e e sinks sinks (Err TurnsSpent) in
      subst Q seen (λ t. halts_here remaining old new a.limits (run_setting (run_state_of a) files) (at_lines (run_state_of a) ls) (run_state_of a) sinks TurnsSpent (fits_of a ls i) refl
      (spent, ap (takes_turn (run_setting (run_state_of a) files) (at_lines (run_state_of a) ls)) t ∙ some) (record { pattern = refl; hold = refl; queue = λ _. refl; entries = omega arith }) (LosesPart-none _ _ _ (TakesAtMost-kept _ _ kept))) at

  -- The source failed.
  pub begins_broken : (pattern : SpaceView) → pattern ≡ a.pattern → LosesPart (left remaining old) (left remaining new) a.limits.space →
      StepsOf remaining old new ls e.limits (run_setting e files) e (run_state_of (record a { pattern = pattern })) sinks sinks (Err InputBroken)
  begins_broken pattern same gone =
      seen_steps remaining old new a e (run_state_of (record a { pattern = pattern })) (begin ∷ []) files ls sinks sinks (Err InputBroken) seen at
      (λ t. halts_here remaining old new a.limits (run_setting (run_state_of a) files) (at_lines (run_state_of a) ls) (run_state_of (record a { pattern = pattern })) sinks InputBroken (fits_of a ls i) refl
      (ap (reads (run_setting (run_state_of a) files)) t) (record { pattern = ap (λ (c : SpaceView). length c.bytes) same; hold = refl; queue = λ _. refl; entries = omega arith }) gone)

  pub begins_failed : Keeps (left remaining old) (left remaining new) → StepsOf remaining old new ls e.limits (run_setting e files) e e sinks sinks (Err InputBroken)
  begins_failed kept =
      let Q : RunState → Type 0 = λ e. e.state.tasks ≡ begin ∷ [] → StepsOf remaining old new ls e.limits (run_setting e files) e e sinks sinks (Err InputBroken) in
      subst Q seen (λ t. halts_here remaining old new a.limits (run_setting (run_state_of a) files) (at_lines (run_state_of a) ls) (run_state_of a) sinks InputBroken (fits_of a ls i) refl
      (ap (reads (run_setting (run_state_of a) files)) t) (record { pattern = refl; hold = refl; queue = λ _. refl; entries = omega arith }) (LosesPart-none _ _ _ (TakesAtMost-kept _ _ kept))) at

-- An engine with the fields a that is before command k, or before the end of the script.
module _ (a : Inside) (e : RunState) (seen : run_state_of a ≡ e) (i : IsConsistent a) (files : ℕ → List ℕ) (ls : List (List ℕ)) (k : ℕ) (at : e.state.tasks ≡ do_at k ∷ []) where
  -- a command with no turn left
  pub reach_spent : (sinks : SinkView) → k < length a.script.commands → a.turns ≡ a.limits.turns →
      MakesMoves e.limits (run_setting e files) (at_lines e ls) (at_lines e ls) sinks sinks (Err TurnsSpent)
  reach_spent sinks there spent =
      let Q : RunState → Type 0 = λ e. e.state.tasks ≡ do_at k ∷ [] → MakesMoves e.limits (run_setting e files) (at_lines e ls) (at_lines e ls) sinks sinks (Err TurnsSpent) in
      subst Q seen (λ t. stopped_here a.limits (run_setting (run_state_of a) files) (at_lines (run_state_of a) ls) (at_lines (run_state_of a) ls) sinks TurnsSpent (fits_of a ls i) refl
      (spent, ap (takes_turn (run_setting (run_state_of a) files) (at_lines (run_state_of a) ls)) t ∙ is_there a.script.commands k there) (record { pattern = refl; hold = refl; queue = λ _. refl; entries = omega arith }) refl) at
    where
      is_there : {A : Type 0} (xs : List A) (k : ℕ) → k < length xs → is_some (slice_get xs k) ≡ true
      is_there [] k h = absurd (omega arith)
      is_there (x ∷ xs) zero h = refl
      is_there (x ∷ xs) (suc k) h = is_there xs k (omega arith)

-- Nothing is moved where the run has ended.
pub ends_here : {R : Type 0} (remaining : R → Option (List ℕ)) (old : Stream R) (a : Inside) (e : RunState) (seen : run_state_of a ≡ e) (i : IsConsistent a) (ls : List (List ℕ)) (files : ℕ → List ℕ) (sinks : SinkView) → a.next_step ≡ p.Ended →
    StepsOf remaining old old ls e.limits (run_setting e files) e e sinks sinks (Err Done)
ends_here {R} remaining old a e seen i ls files sinks over =
    rw (← seen) (halts_here remaining old old a.limits (run_setting (run_state_of a) files) (at_lines (run_state_of a) ls) (run_state_of a) sinks Done (fits_of a ls i) refl (ap tasks_of over) (record { pattern = refl; hold = refl; queue = λ _. refl; entries = omega arith }) (LosesPart-none _ _ _ (TakesAtMost-none _)))

-- What takes no lines keeps those that are left.
pub steps_by_moves : {R : Type 0} (remaining : R → Option (List ℕ)) (old : Stream R) (ls : List (List ℕ)) (l : LimitsView) (g : Setting) (e e' : RunState) (sinks sinks' : SinkView) (r : Result Unit Ended) → lines_left remaining old ≡ Some ls →
    MakesMoves l g (at_lines e ls) (at_lines e' ls) sinks sinks' r → StepsOf remaining old old ls l g e e' sinks sinks' r
steps_by_moves {R} remaining old ls l g e e' sinks sinks' (Ok u) known ran = (ls, lines_same remaining old ls known, ran)
steps_by_moves {R} remaining old ls l g e e' sinks sinks' (Err end) known stopped = record {
  rest = ls;
  stopped = stopped;
  lines = [];
  are = refl;
  bytes = LosesPartAfter-none _ _ _ (LosesPart-none _ _ _ (TakesAtMost-none _));
}

-- an engine at the start, with this pattern space, hold space, queue and ranges
abbrev pub starting : Program → LimitsView → List ℕ → List ℕ → List ℕ → List Bool → RunState
starting script l pattern hold queue ranges = record {
  script = script;
  limits = l;
  state = record { lines = []; number = 0; pattern = pattern; hold = hold; replaced = false; queue = entries_of script queue; ranges = ranges; used = None; tasks = begin ∷ []; turns = 0 };
  sent = [];
  ended = None;
}

pub opened : (seen script : Program) (l : LimitsView) (pattern hold queue : List ℕ) (ranges : List Bool) → seen ≡ script → pattern ≡ [] → hold ≡ [] → queue ≡ [] → ranges ≡ map (λ _. false) script.commands →
    starting seen l pattern hold queue ranges ≡ record { script = script; limits = l; state = start script.commands []; sent = []; ended = None }
opened seen script l pattern hold queue ranges same none none' none'' idle = rw (same, none, none', none'', idle) refl

-- the fields after moves that leave the hold space and the ranges
moved : (a : Inside) (pattern build : SpaceView) (queue : QueueView) (next_step : NextStep) (number turns : ℕ) (replaced : Bool) → IsConsistent a → number ≤ turns → turns ≤ a.limits.turns → pattern.limit ≡ a.pattern.limit → length pattern.bytes ≤ a.limits.space → build.limit ≡ a.build.limit →
    queue.limit ≡ a.queue.limit → length queue.items ≤ a.limits.queue → AllQueue a.script queue.items → IsEmptied next_step pattern.bytes → IsConsistent (record a { pattern = pattern; build = build; queue = queue; next_step = next_step; number = number; turns = turns; replaced = replaced })
moved a pattern build queue next_step number turns replaced i fewer most limit short same queue_limit few queued empty = record {
  number = fewer;
  turns = most;
  pattern_limit = limit ∙ i.pattern_limit;
  pattern = short;
  hold_limit = i.hold_limit;
  hold = i.hold;
  build_limit = λ some. same ∙ i.build_limit some;
  build_within = rw same i.build_within;
  copy_limit = λ some. same ∙ i.copy_limit some;
  queue_limit = queue_limit ∙ i.queue_limit;
  queue = few;
  queued = queued;
  empty = empty;
  ranges = i.ranges;
  used = i.used;
  scratch_text = i.scratch_text;
  scratch_nodes = i.scratch_nodes;
  matchers = i.matchers;
  seeking = i.seeking;
  nodes = i.nodes;
  idle = i.idle;
}

-- with another pattern space, at another place
pub placed : (a : Inside) (pattern : SpaceView) (next_step : NextStep) → IsConsistent a → pattern.limit ≡ a.pattern.limit → length pattern.bytes ≤ a.limits.space → IsEmptied next_step pattern.bytes →
    IsConsistent (record a { pattern = pattern; next_step = next_step })
placed a pattern next_step i limit short = moved a pattern a.build a.queue next_step a.number a.turns a.replaced i i.number i.turns limit short refl refl i.queue i.queued

-- Where a command is reached the pattern space needn't be empty.
pub may_hold : (p : NextStep) (bytes : List ℕ) → reaches (tasks_of p) ≡ true → IsEmptied p bytes
may_hold p.Begin bytes h = cc
may_hold other bytes h = tt

-- the fields with another pattern space, where a command is reached
pub reached_placed : (a : Inside) (pattern : SpaceView) → IsConsistent a → reaches (tasks_of a.next_step) ≡ true → pattern.limit ≡ a.pattern.limit → length pattern.bytes ≤ a.limits.space → IsConsistent (record a { pattern = pattern })
reached_placed a pattern i at limit short = placed a pattern a.next_step i limit short (may_hold a.next_step pattern.bytes at)

-- the pattern space with a line more, or as it was
pub appended_is_run : (a : Inside) (pattern : SpaceView) (bytes : List ℕ) (r : Result Unit Full) → IsConsistent a → reaches (tasks_of a.next_step) ≡ true → OnOk r (pattern ≡ record a.pattern { bytes = a.pattern.bytes ++ 10 ∷ bytes }) →
    OnOk r (length a.pattern.bytes + 1 + length bytes ≤ a.pattern.limit) → OnErr r (pattern ≡ a.pattern) → IsConsistent (record a { pattern = pattern })
appended_is_run a pattern bytes (Ok u) i at ok room err =
    let limit = i.pattern_limit in
    rw ok (reached_placed a (record a.pattern { bytes = a.pattern.bytes ++ 10 ∷ bytes }) i at refl (omega (arith, length-append a.pattern.bytes (10 ∷ bytes))))
appended_is_run a pattern bytes (Err f) i at ok room err = rw err i

-- the hold space was appended to the pattern space, or there is no room for it
pub held_appended : (a : Inside) (e : RunState) (pattern : SpaceView) (bytes : List ℕ) → run_state_of a ≡ e → IsConsistent a → bytes ≡ a.hold.bytes → pattern ≡ record a.pattern { bytes = a.pattern.bytes ++ 10 ∷ bytes } →
    length a.pattern.bytes + 1 + length bytes ≤ a.pattern.limit → BecomesOrFull e (record e { state = record e.state { pattern = e.state.pattern ++ newline ∷ e.state.hold } }) (run_state_of (record a { pattern = pattern })) (Ok tt)
held_appended a e pattern bytes seen i same is room =
    let limit = i.pattern_limit in
    let whole = ap (λ (c : SpaceView). c.bytes) is ∙ ap (λ w. a.pattern.bytes ++ 10 ∷ w) same in
    let short : length (a.pattern.bytes ++ 10 ∷ a.hold.bytes) ≤ a.limits.space = omega (arith, limit, room, ap length same, length-append a.pattern.bytes (10 ∷ a.hold.bytes)) in
    rw (← seen) (ap (λ w. let e : RunState = record (run_state_of a) { state = record (run_state_of a).state { pattern = w } } in e) whole, short, i.hold)

pub held_too_long : (a : Inside) (e : RunState) (pattern : SpaceView) (bytes : List ℕ) → run_state_of a ≡ e → IsConsistent a → bytes ≡ a.hold.bytes → pattern ≡ a.pattern →
    a.pattern.limit < length a.pattern.bytes + 1 + length bytes → BecomesOrFull e (record e { state = record e.state { pattern = e.state.pattern ++ newline ∷ e.state.hold } }) (run_state_of (record a { pattern = pattern })) (Err (PatternFull a.number))
held_too_long a e pattern bytes seen i same is more =
    let limit = i.pattern_limit in
    let long : a.limits.space < length (a.pattern.bytes ++ 10 ∷ a.hold.bytes) = omega (arith, limit, more, ap length same, length-append a.pattern.bytes (10 ∷ a.hold.bytes)) in
    rw (← seen) (ap (λ (c : SpaceView). run_state_of (record a { pattern = c })) is, refl, long)

emptied : (p : NextStep) → IsEmptied p []
emptied p.Begin = refl
emptied other = tt

-- the pattern space was emptied
pub cleared_is_run : (a : Inside) (pattern : SpaceView) → IsConsistent a → pattern ≡ record a.pattern { bytes = [] } → IsConsistent (record a { pattern = pattern })
cleared_is_run a pattern i is = rw is (placed a (record a.pattern { bytes = [] }) a.next_step i refl (omega arith) (emptied a.next_step))

-- the fields after the next line was brought, where a command is reached: `before` is the space before it
pub brought_is_run : (a : Inside) (before pattern : SpaceView) → IsConsistent a → reaches (tasks_of a.next_step) ≡ true → before.limit ≡ a.pattern.limit → length before.bytes ≤ before.limit → pattern.limit ≡ before.limit →
    (length before.bytes ≤ before.limit → length pattern.bytes ≤ pattern.limit) → IsConsistent (record a { pattern = pattern })
brought_is_run a before pattern i at limit short limit' fits =
    let within = fits short in
    let most = i.pattern_limit in
    reached_placed a pattern i at (limit' ∙ limit) (omega arith)

-- the fields after a cycle has begun with a line
pub begun_is_run : (a : Inside) (pattern : SpaceView) (line : List ℕ) → IsConsistent a → (a.turns ≡ a.limits.turns → ⊥) → pattern ≡ record a.pattern { bytes = a.pattern.bytes ++ line } → length pattern.bytes ≤ pattern.limit →
    IsConsistent (record a { pattern = pattern; number = a.number + 1; turns = a.turns + 1; replaced = false; next_step = p.Do 0 })
begun_is_run a pattern line i more is within =
    let limit : pattern.limit ≡ a.pattern.limit = ap (λ (c : SpaceView). c.limit) is in
    let most = i.pattern_limit in
    let turns = i.turns in
    let low = i.number in
    moved a pattern a.build a.queue (p.Do 0) (a.number + 1) (a.turns + 1) false i (omega arith) (omega arith) limit (omega arith) refl refl i.queue i.queued tt

-- a cycle was to begin, and began, or the run has ended
pub begun_falls : (a : Inside) (e : RunState) (pattern : SpaceView) → run_state_of a ≡ e → IsConsistent a → e.state.tasks ≡ begin ∷ [] → (a.turns ≡ a.limits.turns → ⊥) →
    weight (run_state_of (record a { pattern = pattern; number = a.number + 1; turns = a.turns + 1; replaced = false; next_step = p.Do 0 })) < weight e
begun_falls a e pattern seen i at more =
    let turns = i.turns in
    let was : costs (tasks_of a.next_step) ≡ 1 = ap costs (rw (← seen) at at) in
    let less : weight (run_state_of (record a { pattern = pattern; number = a.number + 1; turns = a.turns + 1; replaced = false; next_step = p.Do 0 })) < weight (run_state_of a) = omega arith in
    rw (← seen) less

pub ended_falls : (a : Inside) (e : RunState) (pattern : SpaceView) → run_state_of a ≡ e → e.state.tasks ≡ begin ∷ [] → weight (run_state_of (record a { pattern = pattern; next_step = p.Ended })) < weight e
ended_falls a e pattern seen at =
    let was : costs (tasks_of a.next_step) ≡ 1 = ap costs (rw (← seen) at at) in
    let less : weight (run_state_of (record a { pattern = pattern; next_step = p.Ended })) < weight (run_state_of a) = omega arith in
    rw (← seen) less

pub rebegun_falls : (a : Inside) (e : RunState) → run_state_of a ≡ e → IsConsistent a → e.state.tasks ≡ rebegin ∷ [] → (a.turns ≡ a.limits.turns → ⊥) → weight (run_state_of (record a { turns = a.turns + 1; next_step = p.Do 0 })) < weight e
rebegun_falls a e seen i at more =
    let turns = i.turns in
    let was : costs (tasks_of a.next_step) ≡ 1 = ap costs (rw (← seen) at at) in
    let less : weight (run_state_of (record a { turns = a.turns + 1; next_step = p.Do 0 })) < weight (run_state_of a) = omega arith in
    rw (← seen) less

empty_mapped : (p : NextStep) (bytes : List ℕ) (f : ℕ → ℕ) → IsEmptied p bytes → IsEmptied p (map f bytes)
empty_mapped p.Begin bytes f h = rw h refl
empty_mapped other bytes f h = tt

-- each byte of the pattern space became another
pub mapped_is_run : (a : Inside) (pattern : SpaceView) (f : ℕ → ℕ) → IsConsistent a → pattern ≡ record a.pattern { bytes = map f a.pattern.bytes } → IsConsistent (record a { pattern = pattern })
mapped_is_run a pattern f i is =
    let long : length (map f a.pattern.bytes) ≡ length a.pattern.bytes = length-map a.pattern.bytes f in
    rw is (placed a (record a.pattern { bytes = map f a.pattern.bytes }) a.next_step i refl (rw long i.pattern) (empty_mapped a.next_step a.pattern.bytes f i.empty))

-- The queue was written: turns were taken, and the build space holds what it held or a part of a file.
pub stopped_flushing : (a : Inside) (build : SpaceView) (turns : ℕ) → IsConsistent a → build.limit ≡ a.build.limit → a.turns ≤ turns → turns ≤ a.limits.turns → IsConsistent (record a { build = build; turns = turns })
stopped_flushing a build turns i same later most =
    let low = i.number in
    moved a a.pattern build a.queue a.next_step a.number turns a.replaced i (omega (arith, low, later)) most refl i.pattern same refl i.queue i.queued i.empty

pub flushed_is_run : (a : Inside) (build : SpaceView) (queue : QueueView) (turns : ℕ) → IsConsistent a → build.limit ≡ a.build.limit → a.turns ≤ turns → turns ≤ a.limits.turns → queue ≡ record a.queue { items = [] } → IsConsistent (record a { build = build; queue = queue; turns = turns })
flushed_is_run a build queue turns i same later most is =
    let low = i.number in
    rw is (moved a a.pattern build (record a.queue { items = [] }) a.next_step a.number turns a.replaced i (omega (arith, low, later)) most refl i.pattern same refl (omega arith) tt i.empty)
