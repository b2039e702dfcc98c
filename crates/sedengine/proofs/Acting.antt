-- What commands that take no line do is a move.
use Rattle.std.proofs.Common.{◌≡◌, ℕ, ◌+◌, ◌<◌, ◌≤◌, Bool, true, false, cond, List, [], ◌∷◌, ◌++◌, length, map, Option, Result, Ok, Err, refl, sym, ◌∙◌, arith, length-append}
use Rattle.std.proofs.lemmas.List.{length-map}
use Rattle.sedacts.specs.State.{Entry, Task, do_at, MachineState, Move, Setting}
use Rattle.sedacts.specs.Move.{writing, quietly, then_do, in_table}
use Rattle.sedacts.specs.Ends.{WithinLimits}
use Rattle.sedacts.specs.Meters.{SinkView}
use Rattle.sedacts.specs.Calls.{NamesNone, WritesAll}
use Rattle.sedacts.specs.Run.{RunState, at_lines, run_setting}
use Rattle.sedengine.specs.Holding.{BecomesOrFull}
use Rattle.sedengine.specs.Queueing.{queueing, QueuesOrFull}
use Rattle.sedengine.specs.Advancing.{ActsHere, MakesMove, costs}
use Rattle.sedacts.specs.declared.ends.Ended.{Ended}
use Rattle.sedacts.specs.declared.ends.Ended.TheVariants.{HoldFull, PatternFull, QueueFull}
use Rattle.sedacts.proofs.Moves.{ran_quietly, stopped_here, moves_writing}
use Rattle.sedengine.proofs.Leaving.{leaves_quiet, leaves_stopped, leaves_written}
use Rattle.sedacts.proofs.Streams.{names_long, names_ok}
use Rattle.sedengine.proofs.SubstituteMoves.{reached_line}

-- the state with these contents of its spaces
abbrev pub holding : MachineState → List ℕ → List ℕ → MachineState
holding s pattern hold = record s { pattern = pattern; hold = hold }

-- after a `t`, which goes to the target or doesn't
abbrev pub tested : MachineState → ℕ → Bool → MachineState
tested s target goes = cond goes (record s { tasks = do_at target ∷ []; replaced = false }) s

-- what a command makes of an engine is this move, by the lines that are left
abbrev pub IsMove : (Setting → MachineState → Option Move) → RunState → (List (List ℕ) → Option Move) → Type 0
IsMove made e move = (files : ℕ → List ℕ) (ls : List (List ℕ)) → made (run_setting e files) (at_lines e ls) ≡ move ls

module _ {O T : Type 0} {tally : O → SinkView} {count : O → ℕ} {text : T → ℕ → Option (List ℕ)} where
  -- what is known of the move by another name
  pub acts_by : {A : Type 0} (made : A → Setting → MachineState → Option Move) {a b : A} {e e' : RunState} {o o' : O} {t t' : T} {r : Result Unit Ended} → a ≡ b →
      ActsHere tally count text (made b) e e' o o' t t' r → ActsHere tally count text (made a) e e' o o' t t' r
  acts_by made is h = rw is h

  -- A command of an engine within its limits, which makes the move `made`.
  module _ {made : Setting → MachineState → Option Move} {o : O} {t : T} (e : RunState) (within : (ls : List (List ℕ)) → WithinLimits e.limits (at_lines e ls)) where
    -- one that writes alone
    pub acts_writing : {o' : O} {out : List (ℕ × ℕ)} {r : Result Unit Ended} → IsMove made e (λ ls. writing out (at_lines e ls)) → WritesAll tally count o o' out r → ActsHere tally count text made e e o o' t t r
    acts_writing {o'} {out} {r} is h = record {
      acts = λ files shown ls s c first. moves_writing e.limits (run_setting e files) s (at_lines e ls) (tally o) (tally o') out r c.fits (first ∙ is files ls) (within ls) c.lines h.puts;
      falls = omega arith;
      leaves = leaves_written h;
    }

    -- one that leads to another state and writes nothing
    pub acts_leading : (s' : MachineState) (e' : RunState) → e' ≡ record e { state = s' } → s'.turns ≡ e.state.turns → costs s'.tasks ≤ costs e.state.tasks + 8 → WithinLimits e.limits s' →
        IsMove made e (λ ls. quietly (record s' { lines = ls })) → ActsHere tally count text made e e' o o t t (Ok tt)
    acts_leading s' e' same turns few f is = rw same (record {
      acts = λ files shown ls s c first. ran_quietly e.limits (run_setting e files) s (record s' { lines = ls }) (tally o) c.fits (first ∙ is files ls) (record { pattern = f.pattern; hold = f.hold; queue = f.queue; turns = f.turns });
      falls = omega arith;
      leaves = leaves_quiet names_ok (record { script = refl; same_limits = refl });
    })

    -- one that ends the run
    pub acts_stopping : (e' : RunState) (end : Ended) → e' ≡ e → NamesNone {T = Unit {0}} (Err end) →
        ((files : ℕ → List ℕ) (ls : List (List ℕ)) → MakesMove e.limits (run_setting e files) (made (run_setting e files) (at_lines e ls)) (at_lines e ls) (at_lines e ls) (tally o) (tally o) (Err end)) →
        ActsHere tally count text made e e' o o t t (Err end)
    acts_stopping e' end same names h = rw same (record { acts = λ files shown. h files; falls = omega arith; leaves = leaves_stopped names })

    -- one that does nothing
    pub acts_nothing : IsMove made e (λ ls. quietly (at_lines e ls)) → ActsHere tally count text made e e o o t t (Ok tt)
    acts_nothing is = let f = within [] in acts_leading e.state e refl refl (omega arith) (record { pattern = f.pattern; hold = f.hold; queue = f.queue; turns = f.turns }) is

    -- one that goes on elsewhere
    pub acts_going : (ts : List Task) (e' : RunState) → e' ≡ record e { state = then_do ts e.state } → costs ts ≤ 8 → IsMove made e (λ ls. quietly (then_do ts (at_lines e ls))) → ActsHere tally count text made e e' o o t t (Ok tt)
    acts_going ts e' same few is = let f = within [] in acts_leading (then_do ts e.state) e' same refl (omega arith) (record { pattern = f.pattern; hold = f.hold; queue = f.queue; turns = f.turns }) is

    -- `t`
    pub acts_testing : (target : ℕ) (e' : RunState) → e' ≡ record e { state = tested e.state target e.state.replaced } → IsMove made e (λ ls. quietly (tested (at_lines e ls) target e.state.replaced)) → ActsHere tally count text made e e' o o t t (Ok tt)
    acts_testing target e' same is = leads e.state.replaced same is
      where
        leads : (b : Bool) → e' ≡ record e { state = tested e.state target b } → IsMove made e (λ ls. quietly (tested (at_lines e ls) target b)) → ActsHere tally count text made e e' o o t t (Ok tt)
        leads true same is = let f = within [] in acts_leading (tested e.state target true) e' same refl (omega arith) (record { pattern = f.pattern; hold = f.hold; queue = f.queue; turns = f.turns }) is
        leads false same is = rw same (acts_nothing is)

    -- `y`
    pub acts_translating : (table : Option (List ℕ)) (e' : RunState) → e' ≡ record e { state = record e.state { pattern = map (in_table table) e.state.pattern } } →
        IsMove made e (λ ls. quietly (record (at_lines e ls) { pattern = map (in_table table) e.state.pattern })) → ActsHere tally count text made e e' o o t t (Ok tt)
    acts_translating table e' same is =
        let f = within [] in
        let long : length (map (in_table table) e.state.pattern) ≡ length e.state.pattern = length-map e.state.pattern (in_table table) in
        acts_leading (record e.state { pattern = map (in_table table) e.state.pattern }) e' same refl (omega arith) (record { pattern = rw long f.pattern; hold = f.hold; queue = f.queue; turns = f.turns }) is

    -- `g`, `h` and `x`: they lead to these contents, which fit
    pub acts_holding : (pattern hold : List ℕ) (e' : RunState) → e' ≡ record e { state = holding e.state pattern hold } → length pattern ≤ e.limits.space → length hold ≤ e.limits.space →
        IsMove made e (λ ls. quietly (holding (at_lines e ls) pattern hold)) → ActsHere tally count text made e e' o o t t (Ok tt)
    acts_holding pattern hold e' same short short' is = let f = within [] in acts_leading (holding e.state pattern hold) e' same refl (omega arith) (record { pattern = short; hold = short'; queue = f.queue; turns = f.turns }) is

    -- `G` and `H`: they lead to these contents, or end the run
    pub acts_growing : (pattern hold : List ℕ) (e' : RunState) (r : Result Unit Ended) → BecomesOrFull e (record e { state = holding e.state pattern hold }) e' r → IsMove made e (λ ls. quietly (holding (at_lines e ls) pattern hold)) →
        ActsHere tally count text made e e' o o t t r
    acts_growing pattern hold e' (Ok u) (same, short, short') is = acts_holding pattern hold e' same short short' is
    acts_growing pattern hold e' (Err (PatternFull n)) (same, number, more) is =
        acts_stopping e' (PatternFull n) same names_long (λ files ls s c first. stopped_here e.limits (run_setting e files) s (at_lines e ls) (tally o) (PatternFull n) c.fits refl
        (number ∙ sym c.number ∙ sym (reached_line s s.tasks c.reaches), c.turn, (_, first ∙ is files ls, more)) c.same c.lines)
    acts_growing pattern hold e' (Err (HoldFull n)) (same, number, more) is =
        acts_stopping e' (HoldFull n) same (record { output = tt; input = λ is. cc }) (λ files ls s c first. stopped_here e.limits (run_setting e files) s (at_lines e ls) (tally o) (HoldFull n) c.fits refl
        (number ∙ sym c.number, c.turn, (_, first ∙ is files ls, more)) c.same c.lines)
    acts_growing pattern hold e' (Err other) h is = absurd h

    -- `a` and `r`: an entry is put into the queue, or there is no room for it
    pub acts_queueing : (entry : Entry) (e' : RunState) (r : Result Unit Ended) → QueuesOrFull e e' entry r → IsMove made e (λ ls. quietly (queueing entry (at_lines e ls))) → ActsHere tally count text made e e' o o t t r
    acts_queueing entry e' (Ok u) (same, room) is =
        let f = within [] in
        let more : length (e.state.queue ++ entry ∷ []) ≤ e.limits.queue = omega (arith, length-append e.state.queue (entry ∷ [])) in
        acts_leading (queueing entry e.state) e' same refl (omega arith) (record { pattern = f.pattern; hold = f.hold; queue = more; turns = f.turns }) is
    acts_queueing entry e' (Err (QueueFull n)) (same, number, full) is =
        let more : e.limits.queue < length (e.state.queue ++ entry ∷ []) = omega (arith, length-append e.state.queue (entry ∷ [])) in
        acts_stopping e' (QueueFull n) same (record { output = tt; input = λ is. cc }) (λ files ls s c first. stopped_here e.limits (run_setting e files) s (at_lines e ls) (tally o) (QueueFull n) c.fits refl
        (number ∙ sym c.number, c.turn, (_, first ∙ is files ls, more)) c.same c.lines)
    acts_queueing entry e' (Err other) h is = absurd h
