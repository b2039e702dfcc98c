-- Further lines come within a cycle.
use Rattle.std.proofs.Common.{◌≡◌, ℕ, ◌+◌, ◌≤◌, Bool, true, false, List, [], ◌∷◌, ◌++◌, length, Option, None, Result, Ok, Err, refl, subst, sym, ap, ◌∙◌, arith, append_assoc}
use Rattle.std.proofs.lemmas.Bool.{false≢true}
use Rattle.sedspace.specs.Spaces.{SpaceView}
use Rattle.sedspace.specs.Stream.{Stream, left, LosesPart}
use Rattle.sedspace.specs.declared.lines.Got.{Got}
use Rattle.sedspace.specs.declared.lines.Got.TheVariants.{Line, End}
use Rattle.sedacts.specs.State.{LimitsView, Task, print_pattern, flush, empty_pattern, fetch, join, MachineState, Move, Setting}
use Rattle.sedacts.specs.Move.{next_move, newline, none_left, quietly, then_do, with_line}
use Rattle.sedacts.specs.Ends.{WithinLimits, named_sink, reads}
use Rattle.sedacts.specs.Held.{SameLengths}
use Rattle.sedacts.specs.Meters.{SinkView}
use Rattle.sedacts.specs.Run.{RunState, at_lines, run_setting, starts_cycle, lost}
use Rattle.sedacts.specs.Steps.{StopsTask, line_at, takes_turn, MakesMoves, Ran}
use Rattle.sedengine.specs.Advancing.{PerformsSteps, StepsFrom}
use Rattle.sedacts.specs.Bringing.{TakesLines, BringsNext, AnswersLine}
use Rattle.sedengine.specs.Fetching.{brought, next_line}
use Rattle.sedengine.specs.declared.next_step.NextStep.TheVariants as p
use Rattle.sedacts.specs.declared.ends.Ended.{Ended}
use Rattle.sedacts.specs.declared.ends.Ended.TheVariants.{PatternFull, InputBroken}
use Rattle.sedengine.specs.Inside.{run_state_of, IsConsistent}
use Rattle.sedengine.specs.declared.machine.Machine.TheInside.{Inside}
use Rattle.sedacts.proofs.Streams.{LosesPart-none, LosesPartAfter-none, LosesPartAfter-then, TakesLines-then}
use Rattle.sedengine.specs.Queueing.{flushed}
use Rattle.sedacts.proofs.Moves.{MakesMoves-then, move_at, moves_fits, ran_fits, ran_quietly, stopped_here}
use Rattle.sedengine.proofs.Tasks.{fits_of, fits_tasks, halts_here}
use Rattle.sedacts.proofs.BroughtLines.{none_taken, shown}

-- moves, and then a call that may take lines
pub steps_then : {R : Type 0} (remaining : R → Option (List ℕ)) (o n : Stream R) (ls : List (List ℕ)) (l : LimitsView) (g : Setting) (s m : MachineState) (e' : RunState) (old mid new : SinkView) (r : Result Unit Ended) →
    Ran l g s m old mid → starts_cycle m.tasks ≡ false → s.lines ≡ m.lines → StepsFrom remaining o n ls l g m e' mid new r → StepsFrom remaining o n ls l g s e' old new r
steps_then {R} remaining o n ls l g s m e' old mid new (Ok u) ran goes same (rest, taken, h) = (rest, taken, MakesMoves-then l g s m (at_lines e' rest) old mid new (Ok tt) ran goes h)
steps_then {R} remaining o n ls l g s m e' old mid new (Err end) ran goes same h = record {
  rest = h.rest;
  stopped = MakesMoves-then l g s m (at_lines e' h.rest) old mid new (Err end) ran goes h.stopped;
  lines = h.lines;
  are = same ∙ h.are;
  bytes = h.bytes;
}

-- a call that looks at the input and takes no line, and then moves
pub looked_moves : {R : Type 0} (remaining : R → Option (List ℕ)) (o n : Stream R) (ls : List (List ℕ)) (l : LimitsView) (g : Setting) (s : MachineState) (e' : RunState) (sinks sinks' : SinkView) (r : Result Unit Ended) →
    TakesLines remaining o n ls ls → s.lines ≡ ls → MakesMoves l g s (at_lines e' ls) sinks sinks' r → StepsFrom remaining o n ls l g s e' sinks sinks' r
looked_moves {R} remaining o n ls l g s e' sinks sinks' (Ok u) taken are h = (ls, taken, h)
looked_moves {R} remaining o n ls l g s e' sinks sinks' (Err end) taken are h = record {
  rest = ls;
  stopped = h;
  lines = [];
  are = are;
  bytes = LosesPartAfter-none _ _ _ (LosesPart-none _ _ _ (rw (none_taken taken.lines ls taken.are) at taken.bytes));
}

-- a call that looks at the input and takes no line, and then one that may take lines
pub looked_then : {R : Type 0} (remaining : R → Option (List ℕ)) (a b c : Stream R) (ls : List (List ℕ)) (l : LimitsView) (g : Setting) (s : MachineState) (e' : RunState) (sinks sinks' : SinkView) (r : Result Unit Ended) →
    TakesLines remaining a b ls ls → StepsFrom remaining b c ls l g s e' sinks sinks' r → StepsFrom remaining a c ls l g s e' sinks sinks' r
looked_then {R} remaining a b c ls l g s e' sinks sinks' (Ok u) taken (rest, more, h) = (rest, TakesLines-then remaining a b c ls ls rest taken more, h)
looked_then {R} remaining a b c ls l g s e' sinks sinks' (Err end) taken h = record {
  rest = h.rest;
  stopped = h.stopped;
  lines = h.lines;
  are = h.are;
  bytes = LosesPartAfter-then _ _ _ 0 _ _ _ (omega arith) (rw (none_taken taken.lines ls taken.are) at taken.bytes) h.bytes;
}

-- the engine with these bytes in its pattern space
abbrev pub with_pattern : RunState → List ℕ → RunState
with_pattern e bytes = record e { state = record e.state { pattern = bytes } }

-- how such a call leaves the engine
abbrev pub AfterBringing : RunState → SpaceView → RunState → Result Got Ended → Type 0
AfterBringing e c e' (Ok got) = e' ≡ brought (with_pattern e c.bytes) got
AfterBringing e c e' (Err end) = e' ≡ with_pattern e c.bytes

-- The next line is brought to the pattern space of the engine e, in place of it or after it and a newline; s is the state
-- at which this is due. Its move is `one` where a line is left, and `none` where there is none.
module _ {R : Type 0} (remaining : R → Option (List ℕ)) (old new : Stream R) (ls : List (List ℕ)) (g : Setting) (e e' : RunState) (sinks : SinkView) (before : List ℕ) (c c' : SpaceView)
    (f : WithinLimits e.limits (at_lines e ls)) (limit : c.limit ≡ e.limits.space) (pattern : c.bytes ≡ e.state.pattern) (s : MachineState) (same_lines : s.lines ≡ ls) (fits : WithinLimits e.limits s)
    (hold : s.hold ≡ e.state.hold) (spaces : s.pattern ≡ e.state.pattern) (queue : s.queue ≡ e.state.queue)
    (line_is : line_at s s.tasks ≡ e.state.number + 1) (no_turn : takes_turn g s s.tasks ≡ false) (may_read : reads g s.tasks ≡ true)
    (one : (line : List ℕ) (rest : List (List ℕ)) → ls ≡ line ∷ rest → next_move g s ≡ quietly (with_line (before ++ line) rest (at_lines e ls)))
    (none : ls ≡ [] → next_move g s ≡ quietly (then_do [] (at_lines e ls))) where
  here : SameLengths s e.state
  here = record { pattern = ap length (sym spaces); hold = ap length (sym hold); queue = λ _. ap length (sym queue); entries = let q = ap length queue in omega arith }

  -- the end comes where nothing was brought
  halts : (end : Ended) → e' ≡ with_pattern e c'.bytes → c' ≡ c → named_sink end ≡ None → lost e.limits end ≡ c.limit → LosesPart (left remaining old) (left remaining new) c.limit → StopsTask e.limits g s end →
      StepsFrom remaining old new ls e.limits g s e' sinks sinks (Err end)
  halts end after is no_sink loses part cause =
      let bytes : c'.bytes ≡ e.state.pattern = ap (λ (c : SpaceView). c.bytes) is ∙ pattern in
      rw after (rw bytes (halts_here remaining old new e.limits g s e sinks end fits no_sink cause here (rw loses part)))

  pub brings_steps : (r : Result Got Ended) → AfterBringing e c' e' r → BringsNext remaining old new ls before (e.state.number + 1) c c' r → StepsFrom remaining old new ls e.limits g s e' sinks sinks (shown r)
  brings_steps (Ok Line) after (line, rest, are, taken, is, fit) =
      let bytes : c'.bytes ≡ before ++ line = ap (λ (c : SpaceView). c.bytes) is in
      rw after (rw bytes (
        rest,
        taken,
        ran_quietly e.limits g s (at_lines (brought (with_pattern e (before ++ line)) Line) rest) sinks fits (one line rest are)
            (record { pattern = omega (arith, fit, limit); hold = f.hold; queue = f.queue; turns = f.turns }),
      ))
  brings_steps (Ok End) after (are, taken, is) =
      let bytes : c'.bytes ≡ e.state.pattern = ap (λ (c : SpaceView). c.bytes) is ∙ pattern in
      let over : MachineState = then_do [] (at_lines e []) in
      rw after (rw bytes ([], taken, ran_quietly e.limits g s over sinks fits (none are ∙ ap (λ ls. quietly (then_do [] (at_lines e ls))) are) (record { pattern = f.pattern; hold = f.hold; queue = f.queue; turns = f.turns })))
  brings_steps (Err (PatternFull n)) after (number, (line, rest, are, more), is, gone) =
      halts (PatternFull n) after is refl (sym limit) gone (number ∙ sym line_is, (λ h. absurd (false≢true (sym no_turn ∙ h))), (_, one line rest are, omega (arith, more, limit)))
  brings_steps (Err InputBroken) after (is, part) = halts InputBroken after is refl (sym limit) part may_read
  brings_steps (Err other) after h = absurd h

-- `n`, `fetch`: the pattern space is emptied, and the next line comes in its place.
pub fetch_steps : {R : Type 0} (remaining : R → Option (List ℕ)) (old new : Stream R) (ls : List (List ℕ)) (files : ℕ → List ℕ) (e e' : RunState) (sinks : SinkView) (c c' : SpaceView) (r : Result Got Ended) →
    WithinLimits e.limits (at_lines e ls) → c.limit ≡ e.limits.space → c.bytes ≡ [] → AfterBringing (with_pattern e []) c' e' r → BringsNext remaining old new ls c.bytes (e.state.number + 1) c c' r →
    StepsFrom remaining old new ls e.limits (run_setting e files) (then_do (empty_pattern ∷ fetch ∷ e.state.tasks) (at_lines e ls)) e' sinks sinks (shown r)
fetch_steps {R} remaining old new ls files e e' sinks c c' r f limit none after brings =
    let g : Setting = run_setting e files in
    let e1 : RunState = with_pattern e [] in
    let s : MachineState = then_do (fetch ∷ e.state.tasks) (at_lines e1 ls) in
    let empty : length e1.state.pattern ≤ e.limits.space = omega arith in
    let f1 : WithinLimits e.limits (at_lines e1 ls) = record { pattern = empty; hold = f.hold; queue = f.queue; turns = f.turns } in
    let fs : WithinLimits e.limits s = record { pattern = empty; hold = f.hold; queue = f.queue; turns = f.turns } in
    let B : List ℕ → Type 0 = λ before. BringsNext remaining old new ls before (e.state.number + 1) c c' r in
    steps_then remaining old new ls e.limits g (then_do (empty_pattern ∷ fetch ∷ e.state.tasks) (at_lines e ls)) s e' sinks sinks sinks (shown r)
    (ran_quietly e.limits g (then_do (empty_pattern ∷ fetch ∷ e.state.tasks) (at_lines e ls)) s sinks (fits_tasks _ (at_lines e ls) _ f) (move_at _ _ _ refl) fs) refl refl
    (brings_steps remaining old new ls g e1 e' sinks [] c c' f1 limit none s refl fs refl refl refl refl refl refl
    (λ line rest are. rw are (move_at _ _ _ refl)) (λ are. rw are (move_at _ _ _ refl)) r after (subst B none brings))

-- `N`, `join`: a newline and the next line come after the pattern space.
pub join_steps : {R : Type 0} (remaining : R → Option (List ℕ)) (old new : Stream R) (ls : List (List ℕ)) (files : ℕ → List ℕ) (e e' : RunState) (sinks : SinkView) (c c' : SpaceView) (r : Result Got Ended) →
    WithinLimits e.limits (at_lines e ls) → c.limit ≡ e.limits.space → c.bytes ≡ e.state.pattern → AfterBringing e c' e' r → BringsNext remaining old new ls (c.bytes ++ newline ∷ []) (e.state.number + 1) c c' r →
    StepsFrom remaining old new ls e.limits (run_setting e files) (then_do (join ∷ e.state.tasks) (at_lines e ls)) e' sinks sinks (shown r)
join_steps {R} remaining old new ls files e e' sinks c c' r f limit same after brings =
    let g : Setting = run_setting e files in
    let s : MachineState = then_do (join ∷ e.state.tasks) (at_lines e ls) in
    let B : List ℕ → Type 0 = λ bytes. BringsNext remaining old new ls (bytes ++ newline ∷ []) (e.state.number + 1) c c' r in
    brings_steps remaining old new ls g e e' sinks (e.state.pattern ++ newline ∷ []) c c' f limit same s refl (fits_tasks _ (at_lines e ls) _ f) refl refl refl refl refl refl
    (λ line rest are. rw (are, append_assoc) (move_at _ _ _ refl)) (λ are. rw are (move_at _ _ _ refl)) r after (subst B same brings)

-- The same for an engine with the fields a.
module _ {R : Type 0} (remaining : R → Option (List ℕ)) (old new : Stream R) (ls : List (List ℕ)) (files : ℕ → List ℕ) (sinks : SinkView) (a : Inside) (e e' : RunState) (seen : run_state_of a ≡ e) (i : IsConsistent a) (c' : SpaceView) (r : Result Got Ended) where
  pub fetches_next : (c : SpaceView) → c ≡ record a.pattern { bytes = [] } → AfterBringing (run_state_of a) c' e' r → BringsNext remaining old new ls c.bytes (a.number + 1) c c' r →
      StepsFrom remaining old new ls e.limits (run_setting e files) (then_do (empty_pattern ∷ fetch ∷ e.state.tasks) (at_lines e ls)) e' sinks sinks (shown r)
  fetches_next c is after brings =
      rw (← seen) (fetch_steps remaining old new ls files (run_state_of a) e' sinks c c' r (fits_of a ls i) (ap (λ (c : SpaceView). c.limit) is ∙ i.pattern_limit) (ap (λ (c : SpaceView). c.bytes) is) after brings)

  pub joins_next : AfterBringing (run_state_of a) c' e' r → BringsNext remaining old new ls (a.pattern.bytes ++ newline ∷ []) (a.number + 1) a.pattern c' r →
      StepsFrom remaining old new ls e.limits (run_setting e files) (then_do (join ∷ e.state.tasks) (at_lines e ls)) e' sinks sinks (shown r)
  joins_next after brings =
      rw (← seen) (join_steps remaining old new ls files (run_state_of a) e' sinks a.pattern c' r (fits_of a ls i) i.pattern_limit refl after brings)

-- `n`: by whether a line is left
pub next_quits : (e e' : RunState) (files : ℕ → List ℕ) (ls : List (List ℕ)) (last : Bool) → last ≡ none_left ls → last ≡ true → next_line (at_lines e ls) ≡ quietly (then_do (print_pattern ∷ flush ∷ []) (at_lines e ls))
next_quits e e' files ls last shown is = rw (sym shown ∙ is) refl

pub next_goes : (e e' : RunState) (files : ℕ → List ℕ) (ls : List (List ℕ)) (last : Bool) → last ≡ none_left ls → last ≡ false →
    next_line (at_lines e ls) ≡ quietly (then_do (print_pattern ∷ flush ∷ empty_pattern ∷ fetch ∷ e.state.tasks) (at_lines e ls))
next_goes e e' files ls last shown is = rw (sym shown ∙ is) refl

-- What is left of the tasks after the queue was written: F gives them from those of the engine.
pub flushed_steps : {R : Type 0} (remaining : R → Option (List ℕ)) (o n : Stream R) (ls : List (List ℕ)) (files : ℕ → List ℕ) (F : List Task → List Task) (s : MachineState) (e e1 e' : RunState) (turns : ℕ) (old mid new : SinkView) (r : Result Unit Ended) →
    e1 ≡ flushed e turns → starts_cycle (F e.state.tasks) ≡ false → s.lines ≡ ls → Ran e.limits (run_setting e files) s (then_do (F e.state.tasks) (at_lines e1 ls)) old mid →
    StepsFrom remaining o n ls e1.limits (run_setting e1 files) (then_do (F e1.state.tasks) (at_lines e1 ls)) e' mid new r → StepsFrom remaining o n ls e.limits (run_setting e files) s e' old new r
flushed_steps {R} remaining o n ls files F s e e1 e' turns old mid new r is goes lines =
    let Q : RunState → Type 0 = λ e1. Ran e.limits (run_setting e files) s (then_do (F e.state.tasks) (at_lines e1 ls)) old mid → StepsFrom remaining o n ls e1.limits (run_setting e1 files) (then_do (F e1.state.tasks) (at_lines e1 ls)) e' mid new r →
    StepsFrom remaining o n ls e.limits (run_setting e files) s e' old new r in
    subst Q (sym is) (λ ran h. steps_then remaining o n ls e.limits (run_setting e files) s (then_do (F e.state.tasks) (at_lines (flushed e turns) ls)) e' old mid new r ran goes lines h)

steps_fits : {R : Type 0} (remaining : R → Option (List ℕ)) (o n : Stream R) (ls : List (List ℕ)) (l : LimitsView) (g : Setting) (s : MachineState) (e' : RunState) (sinks sinks' : SinkView) (r : Result Unit Ended) → StepsFrom remaining o n ls l g s e' sinks sinks' r → WithinLimits l s
steps_fits {R} remaining o n ls l g s e' sinks sinks' (Ok u) (rest, taken, h) = ran_fits l g s (at_lines e' rest) sinks sinks' h
steps_fits {R} remaining o n ls l g s e' sinks sinks' (Err end) h = moves_fits l g s (at_lines e' h.rest) sinks sinks' (Err end) h.stopped

-- A command makes a quiet move, and then what h says.
pub performs_then : {R : Type 0} (remaining : R → Option (List ℕ)) (o n : Stream R) (ls : List (List ℕ)) (l : LimitsView) (g : Setting) (first : Option Move) (asks : Bool) (there m : MachineState) (e' : RunState) (old new : SinkView) (r : Result Unit Ended) →
    first ≡ quietly m → starts_cycle m.tasks ≡ false → there.lines ≡ m.lines → StepsFrom remaining o n ls l g m e' old new r → PerformsSteps remaining o n ls l g first asks there e' old new r
performs_then {R} remaining o n ls l g first asks there m e' old new r is goes lines h = λ s c asked move_is.
    steps_then remaining o n ls l g s m e' old old new r (ran_quietly l g s m old c.fits (move_is ∙ is) (steps_fits remaining o n ls l g m e' old new r h)) goes (c.lines ∙ lines) h

-- The source failed where `n` asked whether a line is left.
pub next_broken : {R : Type 0} (remaining : R → Option (List ℕ)) (o n : Stream R) (ls : List (List ℕ)) (g : Setting) (first : Option Move) (e : RunState) (sinks : SinkView) (end : Ended) → TakesLines remaining o n ls ls → AnswersLine (none_left ls) (Err end) →
    PerformsSteps remaining o n ls e.limits g first true (at_lines e ls) e sinks sinks (Err end)
next_broken {R} remaining o n ls g first e sinks InputBroken taken shown = λ s c asked move_is.
    looked_moves remaining o n ls e.limits g s e sinks sinks (Err InputBroken) taken c.lines (stopped_here e.limits g s (at_lines e ls) sinks InputBroken c.fits refl (asked refl) c.same c.lines)
next_broken {R} remaining o n ls g first e sinks other taken shown = absurd shown

-- `n` where no line is left
pub next_stops : {R : Type 0} (remaining : R → Option (List ℕ)) (o n : Stream R) (ls : List (List ℕ)) (files : ℕ → List ℕ) (a : Inside) (e : RunState) (sinks : SinkView) (last : Bool) → run_state_of a ≡ e → IsConsistent a → TakesLines remaining o n ls ls → last ≡ none_left ls → last ≡ true →
    PerformsSteps remaining o n ls e.limits (run_setting e files) (next_line (at_lines e ls)) true (at_lines e ls) (run_state_of (record a { next_step = p.WriteLast })) sinks sinks (Ok tt)
next_stops {R} remaining o n ls files a e sinks last seen i taken shown is =
    let e0 : RunState = run_state_of a in
    let now : MachineState = then_do (print_pattern ∷ flush ∷ []) (at_lines e0 ls) in
    rw (← seen) (λ s c asked first. looked_moves remaining o n ls a.limits (run_setting e0 files) s (run_state_of (record a { next_step = p.WriteLast })) sinks sinks (Ok tt) taken c.lines
    (ran_quietly a.limits (run_setting e0 files) s now sinks c.fits (first ∙ next_quits e0 e0 files ls last shown is) (fits_tasks a.limits (at_lines e0 ls) (print_pattern ∷ flush ∷ []) (fits_of a ls i))))
