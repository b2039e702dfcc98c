-- What commands do are moves.
use Rattle.std.proofs.Common.{◌≡◌, ℕ, ◌+◌, ◌<◌, Bool, true, false, cond, List, [], ◌∷◌, length, Option, Some, None, Result, Ok, Err, refl, subst, ap, ◌∙◌, arith}
use Rattle.std.specs.Borrow.{GName}
use Rattle.std.specs.Prelude.{slice_get, slice_set, option_and_then}
use Rattle.std.proofs.lemmas.Option.{slice_get_within}
use Rattle.sedscript.specs.Program.{Program}
use Rattle.sedscript.specs.declared.types.Command.{Command}
use Rattle.sedscript.specs.declared.types.Action.{Action}
use Rattle.sedscript.specs.declared.types.Action.TheVariants.{Block}
use Rattle.sedspace.specs.Stream.{Stream, left, lines_left}
use Rattle.sedspace.specs.Reading.{TakesAtMost}
use Rattle.sedacts.specs.State.{LimitsView, do_at, MachineState, Move, Setting}
use Rattle.sedacts.specs.Select.{Selection, selects}
use Rattle.sedacts.specs.Move.{next_move, reach, acts, goes_past, none_left, writes_text_at}
use Rattle.sedacts.specs.Ends.{WithinLimits, reads, asks_if_last, is_next_line}
use Rattle.sedacts.specs.Meters.{SinkView}
use Rattle.sedacts.specs.Run.{RunState, at_lines, run_setting}
use Rattle.sedengine.specs.Passing.{passed_over}
use Rattle.sedacts.specs.Choose.{performs, is_active}
use Rattle.sedengine.specs.Judging.{AnswersSelection, as_selection, reached_with, current_in, names_last}
use Rattle.sedengine.specs.Advancing.{ActsHere, ActsLines, ReachesCommand, PerformsSteps, StepsOf}
use Rattle.sedacts.specs.Steps.{reaches, HasAction, Ran}
use Rattle.sedacts.specs.Bringing.{TakesLines}
use Rattle.sedengine.specs.Inside.{run_state_of, IsConsistent}
use Rattle.sedacts.specs.Keeping.{keeps_in_hold, queues, CommandHolds, CommandQueues, FillsHold}
use Rattle.sedengine.specs.declared.machine.Machine.TheInside.{Inside}
use Rattle.sedacts.specs.declared.select.Chosen.{Chosen}
use Rattle.sedacts.specs.declared.ends.Ended.{Ended}
use Rattle.sedacts.specs.declared.ends.Ended.TheVariants.{TurnsSpent, NoPrevious, InputBroken}
use Rattle.sedacts.proofs.Streams.{LosesPart-none, lines_same}
use Rattle.sedengine.proofs.Leaving.{leaves_unread}
use Rattle.sedacts.proofs.Moves.{move_at, ran_quietly}
use Rattle.sedengine.proofs.NextLines.{looked_moves, looked_then}
use Rattle.sedacts.proofs.BroughtLines.{none_taken}
use Rattle.sedengine.proofs.Choices.{or_left, or_right}
use Rattle.sedengine.proofs.Tasks.{fits_of, halts_here, reach_spent, steps_by_moves}
use Rattle.std.specs.Option.{option_map_or}

module _ {R O T : Type 0} {remaining : R → Option (List ℕ)} {failures : R → ℕ} {reference : R → List GName} {tally : O → SinkView} {count : O → ℕ} {text : T → ℕ → Option (List ℕ)} {e e' : RunState} {o o' : O} {t t' : T} {r : Result Unit Ended} where
  -- what a command that takes no line does leaves the lines
  pub acts_here : {made : Setting → MachineState → Option Move} {l : Stream R} (asks : Bool) → ActsHere tally count text made e e' o o' t t' r → ActsLines remaining failures reference tally count text made asks e e' l l o o' t t' r
  acts_here {made} {l} asks h = record {
    acts = λ sound ls known files shown s c asked first. looked_moves remaining l l ls e.limits (run_setting e files) s e' (tally o) (tally o') r (lines_same remaining l ls known) c.lines (h.acts files shown ls s c first);
    falls = h.falls;
    leaves = leaves_unread h.leaves;
  }

  -- what is known of a command by another name
  pub lines_by : (made : Action → Setting → MachineState → Option Move) {a b : Action} {l l' : Stream R} → a ≡ b →
      ActsLines remaining failures reference tally count text (made b) (is_next_line b) e e' l l' o o' t t' r → ActsLines remaining failures reference tally count text (made a) (is_next_line a) e e' l l' o o' t t' r
  lines_by made is h = rw is h

-- an engine passes over a command
passes_on : (l : LimitsView) (g : Setting) (s : MachineState) (e : RunState) (ls : List (List ℕ)) (action : Action) (sinks : SinkView) → WithinLimits l s → WithinLimits l (at_lines e ls) → next_move g s ≡ goes_past (at_lines e ls) action →
    Ran l g s (at_lines (passed_over e action) ls) sinks sinks
passes_on l g s e ls (Block next) sinks f f' first = ran_quietly l g s (at_lines (passed_over e (Block next)) ls) sinks f first (record { pattern = f'.pattern; hold = f'.hold; queue = f'.queue; turns = f'.turns })
passes_on l g s e ls other sinks f f' first = ran_quietly l g s (at_lines e ls) sinks f first f'

-- a turn is left
pub turn_left : (a : Inside) (e : RunState) → run_state_of a ≡ e → IsConsistent a → (a.turns ≡ a.limits.turns → ⊥) → e.state.turns < e.limits.turns
turn_left a e seen i more =
    let most = i.turns in
    let less : a.turns < a.limits.turns = omega arith in
    rw (← seen) less

-- where a command was reached there are fewer lines than turns
pub reached_number : (a : Inside) (e e1 : RunState) (k : ℕ) (ranges : List Bool) (used : Option ℕ) → run_state_of a ≡ e → IsConsistent a → e1 ≡ reached_with e k ranges used → e1.state.number < e1.state.turns
reached_number a e e1 k ranges used seen i came =
    let low = i.number in
    let fewer : a.number < a.turns + 1 = omega arith in
    rw came (rw (← seen) fewer)

-- the command of the script as it is seen
pub command_seen : (a : Inside) (e : RunState) (k : ℕ) (c : Command) → run_state_of a ≡ e → slice_get a.script.commands k ≡ Some c → slice_get e.script.commands k ≡ Some c
command_seen a e k c seen is = rw (← seen) is

pub command_there : (a : Inside) (e : RunState) (k : ℕ) (c : Command) → run_state_of a ≡ e → slice_get a.script.commands k ≡ Some c → k < length e.script.commands
command_there a e k c seen is = slice_get_within e.script.commands k c (command_seen a e k c seen is)

pub action_there : (a : Inside) (e : RunState) (k : ℕ) (c : Command) → run_state_of a ≡ e → slice_get a.script.commands k ≡ Some c → HasAction (slice_get e.script.commands k) c.action
action_there a e k c seen is = rw (command_seen a e k c seen is) refl

-- no turn is left
pub steps_spent : {R : Type 0} (remaining : R → Option (List ℕ)) (old : Stream R) (a : Inside) (e : RunState) (seen : run_state_of a ≡ e) (i : IsConsistent a) (files : ℕ → List ℕ) (ls : List (List ℕ)) → lines_left remaining old ≡ Some ls → (sinks : SinkView) (k : ℕ) →
    e.state.tasks ≡ do_at k ∷ [] → k < length a.script.commands → a.turns ≡ a.limits.turns → StepsOf remaining old old ls e.limits (run_setting e files) e e sinks sinks (Err TurnsSpent)
steps_spent {R} remaining old a e seen i files ls known sinks k t there spent =
    steps_by_moves remaining old ls e.limits (run_setting e files) e e sinks sinks (Err TurnsSpent) known (reach_spent a e seen i files ls k t sinks there spent)

-- Coming to the command c, of number k, with a turn left; a are the fields of the engine, which is seen as e.
module _ {R : Type 0} (remaining : R → Option (List ℕ)) (old new : Stream R) (a : Inside) (e : RunState) (seen : run_state_of a ≡ e) (i : IsConsistent a) (files : ℕ → List ℕ) (ls : List (List ℕ)) (k : ℕ) (c : Command)
    (t : e.state.tasks ≡ do_at k ∷ []) (is : slice_get a.script.commands k ≡ Some c) (more : a.turns ≡ a.limits.turns → ⊥) (taken : TakesLines remaining old new ls ls) where
  here : WithinLimits e.limits (at_lines e ls)
  here = rw (← seen) (fits_of a ls i)

  bytes_stay : TakesAtMost (left remaining old) (left remaining new) 0
  bytes_stay = rw (none_taken taken.lines ls taken.are) at taken.bytes

  reach_as : (choice : Option Selection) → selects (current_in e (none_left ls)) (is_active e.state k) c ≡ choice →
      next_move (run_setting e files) (at_lines e ls) ≡ option_and_then (performs (run_setting e files) (at_lines e ls) k c) choice
  reach_as choice h =
      move_at _ _ _ t ∙ ap (reach (run_setting e files) (at_lines e ls) k) (command_seen a e k c seen is) ∙ ap (option_and_then (performs (run_setting e files) (at_lines e ls) k c)) h

  -- the end comes where the addresses are judged
  pub reach_stopping : (sinks : SinkView) (used : Option ℕ) (end : Ended) (e' : RunState) → e' ≡ e → AnswersSelection (current_in e (none_left ls)) (is_active e.state k) c used (Err end) →
      StepsOf remaining old new ls e.limits (run_setting e files) e e' sinks sinks (Err end)
  reach_stopping sinks used end e' same h =
      rw same (stops end h)
    where
      stops : (end : Ended) → AnswersSelection (current_in e (none_left ls)) (is_active e.state k) c used (Err end) → StepsOf remaining old new ls e.limits (run_setting e files) e e sinks sinks (Err end)
      stops (NoPrevious n) (without, number) =
          halts_here remaining old new e.limits (run_setting e files) (at_lines e ls) e sinks (NoPrevious n) here refl
          (number, (λ _. turn_left a e seen i more), ap reaches t, reach_as None without) (record { pattern = refl; hold = refl; queue = λ _. refl; entries = omega arith }) (LosesPart-none _ _ _ bytes_stay)
      stops InputBroken h =
          halts_here remaining old new e.limits (run_setting e files) (at_lines e ls) e sinks InputBroken here refl
          (ap (reads (run_setting e files)) t ∙ ap (λ o. option_map_or asks_if_last o false) (command_seen a e k c seen is) ∙ or_left (names_last c) (is_next_line c.action) h) (record { pattern = refl; hold = refl; queue = λ _. refl; entries = omega arith }) (LosesPart-none _ _ _ bytes_stay)
      stops other h = absurd h

  -- The addresses chose.
  module _ (choice : Chosen) (used : Option ℕ) (e1 e2 : RunState) (chose : selects (current_in e (none_left ls)) (is_active e.state k) c ≡ Some (as_selection choice used)) (came : e1 ≡ reached_with e k (slice_set e.state.ranges k choice.active) used) where
    moves_as : (b : Bool) → choice.yes ≡ b → next_move (run_setting e files) (at_lines e ls) ≡
        cond b (acts (run_setting e files) (at_lines (reached_with e k (slice_set e.state.ranges k choice.active) used) ls) (writes_text_at c choice.end) c.action) (goes_past (at_lines (reached_with e k (slice_set e.state.ranges k choice.active) used) ls) c.action)
    moves_as b chosen = reach_as (Some (as_selection choice used)) chose ∙
        ap (λ b. cond b (acts (run_setting e files) (at_lines (reached_with e k (slice_set e.state.ranges k choice.active) used) ls) (writes_text_at c choice.end) c.action) (goes_past (at_lines (reached_with e k (slice_set e.state.ranges k choice.active) used) ls) c.action)) chosen

    -- the command is reached in the state in which it acts
    here_reaches : ReachesCommand e.limits (run_setting e files) (at_lines e ls) (at_lines (reached_with e k (slice_set e.state.ranges k choice.active) used) ls)
    here_reaches = record {
      fits = here;
      reaches = ap reaches t;
      turn = λ _. turn_left a e seen i more;
      lines = refl;
      number = refl;
      same = record { pattern = refl; hold = refl; queue = λ _. refl; entries = omega arith };
    }

    -- the command applies; `to` is where the lines then are
    pub reach_acting : (to : Stream R) (sinks sinks' : SinkView) (r : Result Unit Ended) (writes_text : Bool) → choice.yes ≡ true → writes_text ≡ writes_text_at c choice.end →
        PerformsSteps remaining new to ls e1.limits (run_setting e1 files) (acts (run_setting e1 files) (at_lines e1 ls) writes_text c.action) (is_next_line c.action) (at_lines e1 ls) e2 sinks sinks' r → StepsOf remaining old to ls e.limits (run_setting e files) e e2 sinks sinks' r
    reach_acting to sinks sinks' r writes_text chosen answers_is h =
        let Q : RunState → Type 0 = λ e1. PerformsSteps remaining new to ls e1.limits (run_setting e1 files) (acts (run_setting e1 files) (at_lines e1 ls) writes_text c.action) (is_next_line c.action) (at_lines e1 ls) e2 sinks sinks' r in
        let now : MachineState = at_lines (reached_with e k (slice_set e.state.ranges k choice.active) used) ls in
        let S : Bool → Type 0 = λ b. PerformsSteps remaining new to ls e.limits (run_setting e files) (acts (run_setting e files) now b c.action) (is_next_line c.action) now e2 sinks sinks' r in
        let there = subst S answers_is (subst Q came h) in
        looked_then remaining old new to ls e.limits (run_setting e files) (at_lines e ls) e2 sinks sinks' r taken (there (at_lines e ls) here_reaches (λ asks. ap (reads (run_setting e files)) t ∙ ap (λ o. option_map_or asks_if_last o false) (command_seen a e k c seen is) ∙ or_right (names_last c) (is_next_line c.action) asks) (moves_as true chosen))

    -- it doesn't
    pub reach_passing : (sinks : SinkView) → choice.yes ≡ false → e2 ≡ passed_over e1 c.action → StepsOf remaining old new ls e.limits (run_setting e files) e e2 sinks sinks (Ok tt)
    reach_passing sinks not_yes goes =
        let now : RunState = reached_with e k (slice_set e.state.ranges k choice.active) used in
        let less = turn_left a e seen i more in
        let f = here in
        rw (goes, came) (ls, taken, passes_on e.limits (run_setting e files) (at_lines e ls) now ls c.action sinks f (record { pattern = f.pattern; hold = f.hold; queue = f.queue; turns = omega arith }) (moves_as false not_yes))

-- a command that has this action puts an entry into the queue
pub queues_action : (o : Option Command) (action : Action) → HasAction o action → queues action ≡ true → CommandQueues o
queues_action None action h is = absurd h
queues_action (Some c) action h is = ap queues h ∙ is

-- there is a sink
pub some_sink : {m n : ℕ} → m < n → 0 < n
some_sink h = omega arith

-- a command that has this action puts something into the hold space
pub fills : (p : Program) (k : ℕ) (action : Action) → HasAction (slice_get p.commands k) action → keeps_in_hold action ≡ true → FillsHold p
fills p k action h is = (k, held (slice_get p.commands k) h)
  where
    held : (o : Option Command) → HasAction o action → CommandHolds o
    held None h = absurd h
    held (Some c) h = ap keeps_in_hold h ∙ is
