-- The pattern space is deleted, or its first line, and a cycle starts.
use Rattle.std.proofs.Common.{◌≡◌, ℕ, zero, suc, Bool, true, false, cond, List, [], ◌∷◌, ◌+◌, ◌≤◌, length, length-drop, drop, Option, Some, Result, Ok, Err, refl, subst, ap, ◌∙◌, arith}
use Rattle.std.specs.Prelude.{slice_get, ◌||◌}
use Rattle.std.specs.Option.{unwrap_or}
use Rattle.std.specs.List.{Contains, after_first, list_any}
use Rattle.sedscript.specs.declared.types.Action.TheVariants.{Plain, Text}
use Rattle.sedscript.specs.declared.types.Simple.TheVariants.{Delete, DeleteFirst}
use Rattle.sedscript.specs.declared.types.TextUse.TheVariants.{Change}
use Rattle.sedspace.specs.Spaces.{SpaceView}
use Rattle.sedspace.specs.Lines.{HasNoNewline, is_newline}
use Rattle.sedacts.specs.State.{begin, rebegin, flush, MachineState, Move, Setting, GivesFiles}
use Rattle.sedacts.specs.Move.{acts, line_to, quietly, then_do, writing}
use Rattle.sedacts.specs.Ends.{WithinLimits}
use Rattle.sedacts.specs.Meters.{WereSent, SinkView}
use Rattle.sedacts.specs.Calls.{PutsBytes, WritesAll}
use Rattle.sedacts.specs.Run.{RunState, at_lines, run_setting}
use Rattle.sedengine.specs.Advancing.{ActsHere, LeavesGiven, MakesMove, weight}
use Rattle.sedacts.specs.Steps.{MakesMoves}
use Rattle.sedengine.specs.Inside.{run_state_of, tasks_of, IsConsistent, IsEmptied}
use Rattle.sedengine.specs.declared.machine.Machine.TheInside.{Inside}
use Rattle.sedengine.specs.declared.next_step.NextStep.{NextStep}
use Rattle.sedengine.specs.declared.next_step.NextStep.TheVariants as p
use Rattle.sedacts.specs.declared.ends.Ended.{Ended}
use Rattle.sedengine.proofs.Leaving.{falls_seen, leaves_after, leaves_seen}
use Rattle.sedacts.proofs.Moves.{moves_fits}
use Rattle.sedengine.proofs.Tasks.{fits_of, placed}
use Rattle.sedengine.proofs.Ending.{acts_then, acts_stopping}
use Rattle.sedengine.proofs.NextLines.{with_pattern}

-- whether there is a newline
pub newline_there : (bytes : List ℕ) → Contains bytes 10 → list_any is_newline bytes ≡ true
newline_there [] (k, lt, is) = absurd (omega arith)
newline_there (b ∷ bs) (zero, lt, is) = rw is refl
newline_there (b ∷ bs) (suc k, lt, is) = by (is_newline b) (newline_there bs (k, omega arith, is))
  where
    by : (x : Bool) → list_any is_newline bs ≡ true → x || list_any is_newline bs ≡ true
    by true h = refl
    by false h = h

pub newline_absent : (bytes : List ℕ) → HasNoNewline bytes → list_any is_newline bytes ≡ false
newline_absent [] h = refl
newline_absent (b ∷ bs) h = rw (h 0 0 (omega arith)) (newline_absent bs (λ k d lt. h (suc k) d (omega arith)))

-- A command that leaves c1 in the pattern space and writes these bytes, and what the call that ends the cycle says of it.
pub deletes : (a : Inside) (e e2 : RunState) (files : ℕ → List ℕ) (ls : List (List ℕ)) (o : Option Move) (next_step : NextStep) (c1 : SpaceView) (old mid new : SinkView) (out : List (ℕ × ℕ)) (r : Result Unit Ended) → run_state_of a ≡ e →
    o ≡ writing out (then_do (flush ∷ tasks_of next_step) (at_lines (with_pattern e c1.bytes) ls)) → WereSent old mid out →
    MakesMoves a.limits (run_setting (run_state_of a) files) (then_do (flush ∷ tasks_of next_step) (at_lines (run_state_of (record a { pattern = c1 })) ls)) (at_lines e2 ls) mid new r →
    MakesMove e.limits (run_setting e files) o (at_lines e ls) (at_lines e2 ls) old new r
deletes a e e2 files ls o next_step c1 old mid new out r seen is gained h =
    let Q : RunState → Type 0 = λ e. o ≡ writing out (then_do (flush ∷ tasks_of next_step) (at_lines (with_pattern e c1.bytes) ls)) → MakesMove e.limits (run_setting e files) o (at_lines e ls) (at_lines e2 ls) old new r in
    let m : MachineState = then_do (flush ∷ tasks_of next_step) (at_lines (run_state_of (record a { pattern = c1 })) ls) in
    subst Q seen (λ is. acts_then a.limits (run_setting (run_state_of a) files) o (at_lines (run_state_of a) ls) m (at_lines e2 ls) old mid new out r is (moves_fits a.limits (run_setting (run_state_of a) files) m (at_lines e2 ls) mid new r h) gained refl h) is

-- The same with what the call that ends the cycle says of its weight, and of how it leaves what it was given.
pub acts_deleting : {O T : Type 0} {tally : O → SinkView} {count : O → ℕ} {text : T → ℕ → Option (List ℕ)} {made : Setting → MachineState → Option Move} {o o1 o2 : O} {t t2 : T} (a : Inside) (e e2 : RunState) (next_step : NextStep) (c1 : SpaceView) (out : List (ℕ × ℕ)) (r : Result Unit Ended) →
    run_state_of a ≡ e → ((files : ℕ → List ℕ) (ls : List (List ℕ)) → made (run_setting e files) (at_lines e ls) ≡ writing out (then_do (flush ∷ tasks_of next_step) (at_lines (with_pattern e c1.bytes) ls))) →
    WritesAll tally count o o1 out (Ok tt) →
    ((files : ℕ → List ℕ) → GivesFiles (text t) files → (ls : List (List ℕ)) → MakesMoves a.limits (run_setting (run_state_of a) files) (then_do (flush ∷ tasks_of next_step) (at_lines (run_state_of (record a { pattern = c1 })) ls)) (at_lines e2 ls) (tally o1) (tally o2) r) →
    weight e2 ≤ weight (run_state_of (record a { pattern = c1 })) + 8 → LeavesGiven tally count text (run_state_of (record a { pattern = c1 })) e2 o1 o2 t t2 r → ActsHere tally count text made e e2 o o2 t t2 r
acts_deleting a e e2 next_step c1 out r seen is first moves falls leaves = record {
  acts = λ files shown ls. deletes a e e2 files ls _ next_step c1 _ _ _ out r seen (is files ls) first.puts (moves files shown ls);
  falls = falls_seen a e (run_state_of (record a { pattern = c1 })) e2 seen refl falls;
  leaves = leaves_seen a e (run_state_of (record a { pattern = c1 })) seen refl refl (leaves_after first.devices leaves);
}

-- The text of `c` can't be written.
pub change_stops : (a : Inside) (e : RunState) (files : ℕ → List ℕ) (ls : List (List ℕ)) (o : Option Move) (c1 : SpaceView) (old new : SinkView) (out : List (ℕ × ℕ)) (end : Ended) → run_state_of a ≡ e → IsConsistent a → c1.bytes ≡ [] →
    o ≡ writing out (then_do (flush ∷ begin ∷ []) (at_lines (with_pattern e c1.bytes) ls)) → PutsBytes old new out (Err end) →
    MakesMove e.limits (run_setting e files) o (at_lines e ls) (at_lines (run_state_of (record a { pattern = c1 })) ls) old new (Err end)
change_stops a e files ls o c1 old new out end seen i none is put =
    let Q : RunState → Type 0 = λ e. o ≡ writing out (then_do (flush ∷ begin ∷ []) (at_lines (with_pattern e c1.bytes) ls)) → MakesMove e.limits (run_setting e files) o (at_lines e ls) (at_lines (run_state_of (record a { pattern = c1 })) ls) old new (Err end) in
    let m : MachineState = then_do (flush ∷ begin ∷ []) (at_lines (run_state_of (record a { pattern = c1 })) ls) in
    let f = fits_of a ls i in
    let empty = ap length none in
    let fm : WithinLimits a.limits m = record { pattern = omega arith; hold = f.hold; queue = f.queue; turns = f.turns } in
    subst Q seen (λ is. acts_stopping a.limits (run_setting (run_state_of a) files) o (at_lines (run_state_of a) ls) m (at_lines (run_state_of (record a { pattern = c1 })) ls) old new out end is fm (record { pattern = refl; hold = refl; queue = λ _. refl; entries = omega arith }) refl put) is

-- What the commands do, by what is left in the pattern space.
pub change_is : (e : RunState) (files : ℕ → List ℕ) (ls : List (List ℕ)) (text : ℕ) (writes_text b : Bool) (c1 : SpaceView) → c1.bytes ≡ [] → writes_text ≡ b →
    acts (run_setting e files) (at_lines e ls) writes_text (Text Change text) ≡ writing (cond b (line_to 0 (unwrap_or (slice_get e.script.texts text) [])) []) (then_do (flush ∷ begin ∷ []) (at_lines (with_pattern e c1.bytes) ls))
change_is e files ls text writes_text b c1 none is = rw (none, is) refl

pub delete_is : (e : RunState) (files : ℕ → List ℕ) (ls : List (List ℕ)) (c1 : SpaceView) → c1.bytes ≡ [] →
    acts (run_setting e files) (at_lines e ls) true (Plain Delete) ≡ quietly (then_do (flush ∷ begin ∷ []) (at_lines (with_pattern e c1.bytes) ls))
delete_is e files ls c1 none = rw none refl

pub cut_is : (e : RunState) (files : ℕ → List ℕ) (ls : List (List ℕ)) (c1 : SpaceView) → list_any is_newline e.state.pattern ≡ true → c1.bytes ≡ after_first is_newline e.state.pattern →
    acts (run_setting e files) (at_lines e ls) true (Plain DeleteFirst) ≡ quietly (then_do (flush ∷ rebegin ∷ []) (at_lines (with_pattern e c1.bytes) ls))
cut_is e files ls c1 there is = rw (there, is) refl

pub uncut_is : (e : RunState) (files : ℕ → List ℕ) (ls : List (List ℕ)) → list_any is_newline e.state.pattern ≡ false →
    acts (run_setting e files) (at_lines e ls) true (Plain DeleteFirst) ≡ acts (run_setting e files) (at_lines e ls) true (Plain Delete)
uncut_is e files ls absent = rw absent refl

pub cut_seen : (a : Inside) (e : RunState) (files : ℕ → List ℕ) (ls : List (List ℕ)) (c1 : SpaceView) → run_state_of a ≡ e → Contains a.pattern.bytes 10 → c1 ≡ record a.pattern { bytes = after_first is_newline a.pattern.bytes } →
    acts (run_setting e files) (at_lines e ls) true (Plain DeleteFirst) ≡ quietly (then_do (flush ∷ rebegin ∷ []) (at_lines (with_pattern e c1.bytes) ls))
cut_seen a e files ls c1 seen there is =
    let same : a.pattern.bytes ≡ e.state.pattern = ap (λ (e : RunState). e.state.pattern) seen in
    cut_is e files ls c1 (rw (← same) (newline_there a.pattern.bytes there)) (ap (λ (c : SpaceView). c.bytes) is ∙ ap (λ bytes. after_first is_newline bytes) same)

drop_short : (k : ℕ) (bytes : List ℕ) → length (drop k bytes) ≤ length bytes
drop_short k bytes = omega (arith, length-drop k bytes)

cut_empties : (p : NextStep) (xs ys : List ℕ) → Contains xs 10 → IsEmptied p xs → IsEmptied p ys
cut_empties p.Begin xs ys (k, lt, is) none = absurd (omega (arith, lt, ap length none))
cut_empties other xs ys there h = tt

-- the fields after the first line was cut off
pub cut_is_run : (a : Inside) (pattern : SpaceView) → IsConsistent a → Contains a.pattern.bytes 10 → pattern ≡ record a.pattern { bytes = after_first is_newline a.pattern.bytes } → IsConsistent (record a { pattern = pattern })
cut_is_run a pattern i there is =
    let w : List ℕ = after_first is_newline a.pattern.bytes in
    let short : length w ≤ length a.pattern.bytes = drop_short _ a.pattern.bytes in
    let most = i.pattern in
    rw is (placed a (record a.pattern { bytes = w }) a.next_step i refl (omega (arith, short, most)) (cut_empties a.next_step a.pattern.bytes w there i.empty))

-- without a newline the space stays, and `D` is `d`
pub uncut_performs : (a : Inside) (e e' : RunState) (files : ℕ → List ℕ) (ls : List (List ℕ)) (c1 : SpaceView) (sinks sinks' : SinkView) (r : Result Unit Ended) → run_state_of a ≡ e → HasNoNewline a.pattern.bytes → c1 ≡ a.pattern →
    MakesMove a.limits (run_setting (run_state_of a) files) (acts (run_setting (run_state_of a) files) (at_lines (run_state_of (record a { pattern = c1 })) ls) true (Plain Delete)) (at_lines (run_state_of (record a { pattern = c1 })) ls) (at_lines e' ls) sinks sinks' r →
    MakesMove e.limits (run_setting e files) (acts (run_setting e files) (at_lines e ls) true (Plain DeleteFirst)) (at_lines e ls) (at_lines e' ls) sinks sinks' r
uncut_performs a e e' files ls c1 sinks sinks' r seen absent is h =
    let S : SpaceView → Type 0 = λ c1. MakesMove a.limits (run_setting (run_state_of a) files) (acts (run_setting (run_state_of a) files) (at_lines (run_state_of (record a { pattern = c1 })) ls) true (Plain Delete)) (at_lines (run_state_of (record a { pattern = c1 })) ls) (at_lines e' ls) sinks sinks' r in
    rw (← seen) (rw (uncut_is (run_state_of a) files ls (newline_absent a.pattern.bytes absent)) (subst S is h))

-- the text of `c`, as the engine is seen
pub text_put : {O : Type 0} {tally : O → SinkView} {count : O → ℕ} {o o' : O} {r : Result Unit Ended} (a : Inside) (e : RunState) (text : ℕ) (bytes : List ℕ) → run_state_of a ≡ e → slice_get a.script.texts text ≡ Some bytes →
    WritesAll tally count o o' (line_to 0 bytes) r → WritesAll tally count o o' (line_to 0 (unwrap_or (slice_get e.script.texts text) [])) r
text_put a e text bytes seen there h =
    rw (← seen) (rw there h)
