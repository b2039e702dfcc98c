-- The queue is written, and a cycle, or the run, ends.
use Rattle.std.proofs.Common.{◌≡◌, ℕ, ◌+◌, ◌<◌, ◌≤◌, false, cond, List, [], ◌∷◌, ◌++◌, length, length-append, Option, Result, Ok, Err, refl, ap, subst, ◌∙◌, arith}
use Rattle.std.specs.Prelude.{OnOk, OnErr, slice_get}
use Rattle.std.proofs.lemmas.Option.{slice_get_past}
use Rattle.sedspace.specs.Spaces.{QueueView}
use Rattle.sedspace.specs.declared.errors.Full.{Full}
use Rattle.sedacts.specs.State.{LimitsView, Entry, Task, begin, rebegin, do_at, print_pattern, empty_pattern, flush, MachineState, Move, Setting}
use Rattle.sedacts.specs.Move.{reach, writing, then_do, line_to}
use Rattle.sedacts.specs.Ends.{WithinLimits}
use Rattle.sedacts.specs.Held.{SameLengths}
use Rattle.sedacts.specs.Meters.{WereSent, SinkView}
use Rattle.sedacts.specs.Calls.{PutsBytes, WritesAll}
use Rattle.sedacts.specs.Run.{RunState, SameRun, at_lines, run_setting, starts_cycle}
use Rattle.sedacts.specs.Steps.{MovesTo, at_end, MakesMoves}
use Rattle.sedengine.specs.Advancing.{MakesMove, costs, weight}
use Rattle.sedengine.specs.Queueing.{QueuesOrFull, flushed, queued_more, with_turns}
use Rattle.sedengine.specs.Inside.{run_state_of, tasks_of, IsConsistent}
use Rattle.sedacts.specs.Keeping.{entries_of, entry_by, CommandQueues}
use Rattle.sedengine.specs.declared.machine.Machine.TheInside.{Inside}
use Rattle.sedengine.specs.declared.next_step.NextStep.{NextStep}
use Rattle.sedengine.specs.declared.next_step.NextStep.TheVariants as p
use Rattle.sedacts.specs.declared.ends.Ended.{Ended}
use Rattle.sedacts.specs.declared.ends.Ended.TheVariants.{QueueFull, TurnsSpent}
use Rattle.sedacts.proofs.Moves.{MakesMoves-then, RanToEnd-as, move_at, moves_fits, moves_then, quietly_then, ran_fits_now, ran_quietly, same_self, stopped_here, stopped_writing}
use Rattle.sedacts.proofs.Queueing.{AllQueue-snoc, entries_of-snoc, length-entries_of}
use Rattle.sedengine.proofs.Tasks.{fits_of, fits_tasks}

-- what is known of the fields holds of the engine as it is seen
pub fits_seen : (a : Inside) (e : RunState) (ls : List (List ℕ)) → run_state_of a ≡ e → IsConsistent a → WithinLimits e.limits (at_lines e ls)
fits_seen a e ls seen i = rw (← seen) (fits_of a ls i)

-- a state that has these tasks already
pub then_same : (s : MachineState) (ts : List Task) → s.tasks ≡ ts → then_do ts s ≡ s
then_same s ts h = rw (← h) refl

-- The queue of an engine with the fields a is written.
pub flush_moves : (a : Inside) (e e' : RunState) (g : Setting) (ls : List (List ℕ)) (rest : List Task) (turns : ℕ) (sinks sinks' : SinkView) (r : Result Unit Ended) → run_state_of a ≡ e → IsConsistent a →
    ((s now : MachineState) (rest : List Task) (later : List Entry) → s.tasks ≡ flush ∷ rest → s.queue ≡ entries_of a.script a.queue.items → s.turns ≡ a.turns → WithinLimits a.limits s → SameLengths s now → s.lines ≡ now.lines →
    MovesTo a.limits g s (record s { tasks = rest; queue = []; turns = turns }) now sinks sinks' r) →
    OnOk r (e' ≡ flushed e turns) → OnErr r (e' ≡ with_turns e turns) →
    MakesMoves e.limits g (then_do (flush ∷ rest) (at_lines e ls)) (then_do rest (at_lines e' ls)) sinks sinks' r
flush_moves a e e' g ls rest turns sinks sinks' (Ok u) seen i h ok err =
    let f = fits_tasks a.limits (at_lines (run_state_of a) ls) (flush ∷ rest) (fits_of a ls i) in
    let s : MachineState = then_do (flush ∷ rest) (at_lines (run_state_of a) ls) in
    rw ok (rw (← seen) (h s s rest [] refl refl refl f (same_self s) refl))
flush_moves a e e' g ls rest turns sinks sinks' (Err end) seen i h ok err =
    let f = fits_tasks a.limits (at_lines (run_state_of a) ls) (flush ∷ rest) (fits_of a ls i) in
    let s : MachineState = then_do (flush ∷ rest) (at_lines (run_state_of a) ls) in
    let now : MachineState = then_do rest (at_lines (with_turns (run_state_of a) turns) ls) in
    rw err (rw (← seen) (h s now rest [] refl refl refl f (record { pattern = refl; hold = refl; queue = λ goes. refl; entries = omega arith }) refl))

-- The pattern space is written, and then what comes after it.
pub print_moves : (e e' : RunState) (files : ℕ → List ℕ) (ls : List (List ℕ)) (rest : List Task) (old mid new : SinkView) (r : Result Unit Ended) → WithinLimits e.limits (at_lines e ls) →
    WereSent old mid (cond e.script.quiet [] (line_to 0 e.state.pattern)) →
    MakesMoves e.limits (run_setting e files) (then_do (flush ∷ rest) (at_lines e ls)) (then_do rest (at_lines e' ls)) mid new r →
    MakesMoves e.limits (run_setting e files) (then_do (print_pattern ∷ flush ∷ rest) (at_lines e ls)) (then_do rest (at_lines e' ls)) old new r
print_moves e e' files ls rest old mid new r f gained h =
    moves_then e.limits (run_setting e files) (then_do (print_pattern ∷ flush ∷ rest) (at_lines e ls)) (then_do (flush ∷ rest) (at_lines e ls)) (then_do rest (at_lines e' ls)) old mid new (cond e.script.quiet [] (line_to 0 e.state.pattern)) r
    (fits_tasks _ (at_lines e ls) _ f) (move_at _ _ _ refl) (fits_tasks _ (at_lines e ls) _ f) gained refl h

pub print_stops : (e : RunState) (files : ℕ → List ℕ) (ls : List (List ℕ)) (rest : List Task) (old new : SinkView) (end : Ended) → WithinLimits e.limits (at_lines e ls) →
    PutsBytes old new (cond e.script.quiet [] (line_to 0 e.state.pattern)) (Err end) →
    MakesMoves e.limits (run_setting e files) (then_do (print_pattern ∷ flush ∷ rest) (at_lines e ls)) (then_do rest (at_lines e ls)) old new (Err end)
print_stops e files ls rest old new end f put =
    stopped_writing e.limits (run_setting e files) (then_do (print_pattern ∷ flush ∷ rest) (at_lines e ls)) (then_do (flush ∷ rest) (at_lines e ls)) (then_do rest (at_lines e ls)) old new (cond e.script.quiet [] (line_to 0 e.state.pattern)) end
    (fits_tasks _ (at_lines e ls) _ f) (move_at _ _ _ refl) (fits_tasks _ (at_lines e ls) _ f) (record { pattern = refl; hold = refl; queue = λ _. refl; entries = omega arith }) refl put

-- The end of the script: command k isn't there. What follows the first move is h.
pub end_moves : (e : RunState) (files : ℕ → List ℕ) (ls : List (List ℕ)) (k : ℕ) (now : MachineState) (old new : SinkView) (r : Result Unit Ended) → WithinLimits e.limits (at_lines e ls) → e.state.tasks ≡ do_at k ∷ [] → length e.script.commands ≤ k →
    MakesMoves e.limits (run_setting e files) (then_do at_end (at_lines e ls)) now old new r → MakesMoves e.limits (run_setting e files) (at_lines e ls) now old new r
end_moves e files ls k now old new r f at over h =
    quietly_then e.limits (run_setting e files) (at_lines e ls) (then_do at_end (at_lines e ls)) now old new r f
    (move_at _ _ _ at ∙ ap (reach (run_setting e files) (at_lines e ls) k) (slice_get_past e.script.commands k over)) (fits_tasks _ (at_lines e ls) at_end f) refl h

-- the engine whose pattern space is emptied, before the next cycle
abbrev pub emptied : RunState → RunState
emptied e = record e { state = record e.state { pattern = []; tasks = begin ∷ [] } }

-- the cycle has ended
pub finished : (e e' final : RunState) (files : ℕ → List ℕ) (ls : List (List ℕ)) (k : ℕ) (old new : SinkView) → e.state.tasks ≡ do_at k ∷ [] → length e.script.commands ≤ k →
    MakesMoves e.limits (run_setting e files) (then_do at_end (at_lines e ls)) (then_do (empty_pattern ∷ begin ∷ []) (at_lines e' ls)) old new (Ok tt) → final ≡ emptied e' →
    MakesMoves e.limits (run_setting e files) (at_lines e ls) (at_lines final ls) old new (Ok tt)
finished e e' final files ls k old new at over h is =
    let g : Setting = run_setting e files in
    let m : MachineState = then_do (empty_pattern ∷ begin ∷ []) (at_lines e' ls) in
    let f = moves_fits e.limits g (then_do at_end (at_lines e ls)) m old new (Ok tt) h in
    let f' = ran_fits_now e.limits g (then_do at_end (at_lines e ls)) m old new h in
    rw is (end_moves e files ls k (at_lines (emptied e') ls) old new (Ok tt) (record { pattern = f.pattern; hold = f.hold; queue = f.queue; turns = f.turns }) at over
    (MakesMoves-then e.limits g (then_do at_end (at_lines e ls)) m (at_lines (emptied e') ls) old new new (Ok tt) h refl
    (ran_quietly e.limits g m (at_lines (emptied e') ls) new f' (move_at _ _ _ refl) (record { pattern = omega arith; hold = f'.hold; queue = f'.queue; turns = f'.turns }))))

-- the end came before the cycle's
pub finish_stopped : (e e' : RunState) (files : ℕ → List ℕ) (ls : List (List ℕ)) (k : ℕ) (rest : List Task) (old new : SinkView) (end : Ended) → e.state.tasks ≡ do_at k ∷ [] → length e.script.commands ≤ k →
    MakesMoves e.limits (run_setting e files) (then_do at_end (at_lines e ls)) (then_do rest (at_lines e' ls)) old new (Err end) →
    MakesMoves e.limits (run_setting e files) (at_lines e ls) (at_lines e' ls) old new (Err end)
finish_stopped e e' files ls k rest old new end at over h =
    let f = moves_fits e.limits (run_setting e files) (then_do at_end (at_lines e ls)) (then_do rest (at_lines e' ls)) old new (Err end) h in
    RanToEnd-as e.limits (run_setting e files) (at_lines e ls) (then_do rest (at_lines e' ls)) (at_lines e' ls) old new end refl refl refl refl
    (end_moves e files ls k (then_do rest (at_lines e' ls)) old new (Err end) (record { pattern = f.pattern; hold = f.hold; queue = f.queue; turns = f.turns }) at over h)

-- the run has ended, or the end came before
pub quits : (e e' : RunState) (g : Setting) (ls : List (List ℕ)) (sinks sinks' : SinkView) (now : MachineState) (r : Result Unit Ended) → e.state.tasks ≡ print_pattern ∷ flush ∷ [] →
    MakesMoves e.limits g (then_do (print_pattern ∷ flush ∷ []) (at_lines e ls)) now sinks sinks' r → MakesMoves e.limits g (at_lines e ls) now sinks sinks' r
quits e e' g ls sinks sinks' now r at h =
    rw (← (then_same (at_lines e ls) (print_pattern ∷ flush ∷ []) at)) h

-- a cycle starts with the pattern space as it is
pub rebegins : (a : Inside) (e : RunState) (g : Setting) (ls : List (List ℕ)) (sinks : SinkView) (e' : RunState) → run_state_of a ≡ e → IsConsistent a → e.state.tasks ≡ rebegin ∷ [] → (a.turns ≡ a.limits.turns → ⊥) →
    e' ≡ record e { state = record e.state { tasks = do_at 0 ∷ []; turns = e.state.turns + 1 } } → MakesMoves e.limits g (at_lines e ls) (at_lines e' ls) sinks sinks (Ok tt)
rebegins a e g ls sinks e' seen i at more is =
    let f = fits_seen a e ls seen i in
    let most = i.turns in
    let less : a.turns + 1 ≤ a.limits.turns = omega arith in
    rw is (ran_quietly e.limits g (at_lines e ls) _ sinks f (move_at _ _ _ at) (record { pattern = f.pattern; hold = f.hold; queue = f.queue; turns = rw (← seen) less }))

pub rebegin_spent : (a : Inside) (e : RunState) (g : Setting) (ls : List (List ℕ)) (sinks : SinkView) → run_state_of a ≡ e → IsConsistent a → e.state.tasks ≡ rebegin ∷ [] → a.turns ≡ a.limits.turns →
    MakesMoves e.limits g (at_lines e ls) (at_lines e ls) sinks sinks (Err TurnsSpent)
rebegin_spent a e g ls sinks seen i at spent =
    let f = fits_seen a e ls seen i in
    stopped_here e.limits g (at_lines e ls) (at_lines e ls) sinks TurnsSpent f refl (rw (← seen) spent, rw at refl) (record { pattern = refl; hold = refl; queue = λ _. refl; entries = omega arith }) refl

-- A command that makes a move which writes these bytes, and then what h says.
pub acts_then : (l : LimitsView) (g : Setting) (o : Option Move) (there m now : MachineState) (old mid new : SinkView) (out : List (ℕ × ℕ)) (r : Result Unit Ended) → o ≡ writing out m → WithinLimits l m → WereSent old mid out → starts_cycle m.tasks ≡ false →
    MakesMoves l g m now mid new r → MakesMove l g o there now old new r
acts_then l g o there m now old mid new out r is f gained goes h = λ s c first. moves_then l g s m now old mid new out r c.fits (first ∙ is) f gained goes h

-- The sink failed in that move.
pub acts_stopping : (l : LimitsView) (g : Setting) (o : Option Move) (there m now : MachineState) (old new : SinkView) (out : List (ℕ × ℕ)) (end : Ended) → o ≡ writing out m → WithinLimits l m → SameLengths m now → there.lines ≡ now.lines →
    PutsBytes old new out (Err end) → MakesMove l g o there now old new (Err end)
acts_stopping l g o there m now old new out end is f same lines put = λ s c first. stopped_writing l g s m now old new out end c.fits (first ∙ is) f same (c.lines ∙ lines) put

-- a number is put into the queue
pub queue_is_run : (a : Inside) (q : QueueView) (k : ℕ) (r : Result Unit Full) → IsConsistent a → CommandQueues (slice_get a.script.commands k) → OnOk r (q ≡ record a.queue { items = a.queue.items ++ k ∷ [] }) → OnOk r (length a.queue.items < a.queue.limit) → OnErr r (q ≡ a.queue) →
    IsConsistent (record a { queue = q })
queue_is_run a q k (Ok u) i h ok room err = let same = i.queue_limit in rw ok (record {
  number = i.number;
  turns = i.turns;
  pattern_limit = i.pattern_limit;
  pattern = i.pattern;
  hold_limit = i.hold_limit;
  hold = i.hold;
  build_limit = i.build_limit;
  build_within = i.build_within;
  copy_limit = i.copy_limit;
  queue_limit = i.queue_limit;
  queue = omega (arith, length-append a.queue.items (k ∷ []));
  queued = AllQueue-snoc a.script a.queue.items k i.queued h;
  empty = i.empty;
  ranges = i.ranges;
  used = i.used;
  scratch_text = i.scratch_text;
  scratch_nodes = i.scratch_nodes;
  matchers = i.matchers;
  seeking = i.seeking;
  nodes = i.nodes;
  idle = i.idle;
})
queue_is_run a q k (Err f) i h ok room err = rw err i

-- what the call that puts it there answers, as the engine is seen
pub queued_seen : (a : Inside) (e : RunState) (q : QueueView) (k : ℕ) → run_state_of a ≡ e → IsConsistent a → q ≡ record a.queue { items = a.queue.items ++ k ∷ [] } → length a.queue.items < a.queue.limit →
    QueuesOrFull e (run_state_of (record a { queue = q })) (entry_by e.script.texts (slice_get e.script.commands k)) (Ok tt)
queued_seen a e q k seen i is room =
    let limit = i.queue_limit in
    let few : length (entries_of a.script a.queue.items) < a.limits.queue = omega (arith, limit, room, length-entries_of a.script a.queue.items) in
    let more : run_state_of (record a { queue = q }) ≡ queued_more (run_state_of a) (entry_by a.script.texts (slice_get a.script.commands k)) =
    ap (λ (q : QueueView). run_state_of (record a { queue = q })) is
    ∙ ap (λ (es : List Entry). let e : RunState = record (run_state_of a) { state = record (run_state_of a).state { queue = es } } in e) (entries_of-snoc a.script a.queue.items k) in
    rw (← seen) (more, few)

pub full_seen : (a : Inside) (e : RunState) (q : QueueView) (k : ℕ) → run_state_of a ≡ e → IsConsistent a → q ≡ a.queue → length a.queue.items ≡ a.queue.limit →
    QueuesOrFull e (run_state_of (record a { queue = q })) (entry_by e.script.texts (slice_get e.script.commands k)) (Err (QueueFull a.number))
full_seen a e q k seen i is full =
    rw (← seen) (ap (λ (q : QueueView). run_state_of (record a { queue = q })) is, refl, length-entries_of a.script a.queue.items ∙ full ∙ i.queue_limit)

-- the tasks that a place stands for weigh little
place_costs : (next_step : NextStep) → costs (tasks_of next_step) ≤ 2
place_costs p.Begin = omega arith
place_costs other = omega arith

-- turns were taken, and the engine goes on at this place
pub weight_ended : (e e' : RunState) (next_step : NextStep) → e'.limits ≡ e.limits → e.state.turns ≤ e'.state.turns → e'.state.tasks ≡ tasks_of next_step → weight e' ≤ weight e + 8
weight_ended e e' next_step limits later tasks =
    let few : costs e'.state.tasks ≤ 2 = rw tasks (place_costs next_step) in
    let same = ap (λ (l : LimitsView). l.turns) limits in
    omega arith

-- the run ends, after what is done last
pub falls_ended : (e e' : RunState) (r : Result Unit Ended) → e.state.tasks ≡ print_pattern ∷ flush ∷ [] → e'.limits ≡ e.limits → e.state.turns ≤ e'.state.turns → e'.state.tasks ≡ [] → OnOk r (weight e' < weight e)
falls_ended e e' (Ok u) last limits later tasks =
    let was : costs e.state.tasks ≡ 2 = ap costs last in
    let now : costs e'.state.tasks ≡ 0 = ap costs tasks in
    let same = ap (λ (l : LimitsView). l.turns) limits in
    omega arith
falls_ended e e' (Err end) last limits later tasks = tt

-- the engine goes on at this place
pub falls_going : (a : Inside) (e : RunState) (next_step : NextStep) → run_state_of a ≡ e → weight (run_state_of (record a { next_step = next_step })) ≤ weight e + 8
falls_going a e next_step seen = rw (← seen) (weight_ended (run_state_of a) (run_state_of (record a { next_step = next_step })) next_step refl (omega arith) refl)

-- a command that queues is one of the engine's script
pub queues_seen : (a : Inside) (e : RunState) (k : ℕ) → run_state_of a ≡ e → CommandQueues (slice_get e.script.commands k) → CommandQueues (slice_get a.script.commands k)
queues_seen a e k seen h = rw (← seen) at h

-- what is written, as the engine is seen
pub writes_seen : {O : Type 0} {tally : O → SinkView} {count : O → ℕ} {o o' : O} {r : Result Unit Ended} (a : Inside) (e : RunState) (f : RunState → List (ℕ × ℕ)) → run_state_of a ≡ e → WritesAll tally count o o' (f (run_state_of a)) r → WritesAll tally count o o' (f e) r
writes_seen a e f seen h = rw (← seen) h

-- The queue was written, or the end came before: neither turns the tasks or the run.
pub tasks_kept : (e e' : RunState) (r : Result Unit Ended) → OnOk r (e' ≡ flushed e e'.state.turns) → OnErr r (e' ≡ with_turns e e'.state.turns) → e'.state.tasks ≡ e.state.tasks
tasks_kept e e' (Ok u) ok err = ap (λ (e : RunState). e.state.tasks) ok
tasks_kept e e' (Err end) ok err = ap (λ (e : RunState). e.state.tasks) err

pub run_kept : (e e' : RunState) (r : Result Unit Ended) → OnOk r (e' ≡ flushed e e'.state.turns) → OnErr r (e' ≡ with_turns e e'.state.turns) → SameRun e e'
run_kept e e' (Ok u) ok err = record { script = ap (λ (e : RunState). e.script) ok; same_limits = ap (λ (e : RunState). e.limits) ok }
run_kept e e' (Err end) ok err = record { script = ap (λ (e : RunState). e.script) err; same_limits = ap (λ (e : RunState). e.limits) err }

-- These tasks were done by an engine that had its next place already.
pub placed_ended : (a : Inside) (e e' : RunState) (next_step : NextStep) (files : ℕ → List ℕ) (ls : List (List ℕ)) (ts : List Task) (sinks sinks' : SinkView) (r : Result Unit Ended) → run_state_of a ≡ e → e'.state.tasks ≡ tasks_of next_step →
    MakesMoves a.limits (run_setting (run_state_of a) files) (then_do ts (at_lines (run_state_of a) ls)) (then_do (tasks_of next_step) (at_lines e' ls)) sinks sinks' r →
    MakesMoves e.limits (run_setting e files) (then_do ts (at_lines e ls)) (at_lines e' ls) sinks sinks' r
placed_ended a e e' next_step files ls ts sinks sinks' r seen at h =
    rw (← seen) (subst (λ (now : MachineState). MakesMoves a.limits (run_setting (run_state_of a) files) (then_do ts (at_lines (run_state_of a) ls)) now sinks sinks' r) (then_same (at_lines e' ls) (tasks_of next_step) at) h)

-- an end that came while the queue was written is one of the engine, whatever it was to do next
pub stopped_anyway : (l : LimitsView) (g : Setting) (s : MachineState) (e : RunState) (ls : List (List ℕ)) (rest : List Task) (sinks sinks' : SinkView) (end : Ended) → MakesMoves l g s (then_do rest (at_lines e ls)) sinks sinks' (Err end) → MakesMoves l g s (at_lines e ls) sinks sinks' (Err end)
stopped_anyway l g s e ls rest sinks sinks' end h = RanToEnd-as l g s (then_do rest (at_lines e ls)) (at_lines e ls) sinks sinks' end refl refl refl refl h
