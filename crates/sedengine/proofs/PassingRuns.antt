-- A run that passes over blocks of lines.
use Rattle.std.proofs.Common.{◌≡◌, ℕ, suc, ◌<◌, ◌+◌, ◌*◌, ◌≤◌, cond, List, [], ◌∷◌, ◌++◌, length, length-append, take, false, Option, Some, Ok, Err, refl, subst, sym, ap, ◌∙◌, arith, append_assoc}
use Rattle.std.proofs.Math.Nat.{suc-mul}
use Rattle.std.proofs.lemmas.List.{take-append-le}
use Rattle.std.specs.Prelude.{max}
use Rattle.std.specs.List.{All}
use Rattle.std.specs.Option.{option_map}
use Rattle.sedspace.specs.Lines.{split_lines}
use Rattle.sedspace.specs.Reading.{TakesAtMost}
use Rattle.sedspace.specs.Stream.{Stream, left}
use Rattle.sedacts.specs.State.{LimitsView, MachineState, Setting}
use Rattle.sedacts.specs.Move.{after, to_sink, written}
use Rattle.sedacts.specs.Meters.{WereSent, SinkView}
use Rattle.sedacts.specs.Ends.{named_sink, LosesPartAfter, size_of}
use Rattle.std.specs.Io.KnownBytes.{prepend_known}
use Rattle.std.proofs.KnownBytes.{prepend_known-nil}
use Rattle.sedacts.specs.Run.{SameRun, RunState, run_setting, at_lines, lost, input_of, CameToEnd}
use Rattle.sedacts.specs.DevicesAfter.{more_at}
use Rattle.sedacts.specs.Bringing.{TakesLines}
use Rattle.sedengine.specs.Passing.{IsIdleIn, AllLeftAlone, BlockLeftAlone, FindsAsItSearches, passed_out, moves_of, CanPass, MovesLedTo, HaltedPassing, StepsPassing, engine_after}
use Rattle.sedacts.specs.Idle.{bytes_of_lines}
use Rattle.sedacts.specs.declared.ends.Ended.{Ended}
use Rattle.sedacts.specs.declared.ends.Ended.TheVariants.{PatternFull, InputBroken}
use Rattle.sedacts.proofs.Sending.{WereSent-append}
use Rattle.sedacts.proofs.Streams.{LosesPartAfter-bytes, LosesPartAfter-then, TakesLines-then, size_of-append}
use Rattle.sedacts.proofs.Moves.{after-add, written-add, StaysWithin-add, Cause-add, HoldsAt-add}
use Rattle.sedengine.proofs.Runs.{Reached, same_setting, without_lines, takes_of, lost_more}
use Rattle.sedspace.proofs.WholeLemmas.{some_lines}
use Rattle.sedacts.proofs.BlockLemmas.{block_bytes, length-bytes_of}
use Rattle.sedengine.proofs.PassingLemmas.{idle_block, broken_block, block_left_alone, all_passed, bytes_of-append, length-to_sink}
use Rattle.sedacts.proofs.Gains.{to_sink-append}

-- The run that began with the engine a and the lines `from`, and came to the engine e.
module _ {R : Type 0} (remaining : R → Option (List ℕ)) (from at to : Stream R) (files : ℕ → List ℕ) (a : RunState) (s : MachineState) (e : RunState) (old mid new : SinkView) (same : SameRun a e)
    (r : Reached remaining from at a.limits (run_setting a files) s e old mid) where
  pub passed_on : (e' : RunState) (rest : List (List ℕ)) → MovesLedTo e.limits (run_setting e files) (at_lines e r.rest) (at_lines e' rest) mid new → MovesLedTo a.limits (run_setting a files) (after (run_setting a files) s r.t) (at_lines e' rest) mid new
  passed_on e' rest h =
      rw r.is (rw (← (same_setting a e files same)) (rw (← same.same_limits) h))

  pub passing_halted_on : (e' : RunState) (end : Ended) → HaltedPassing remaining at to e.limits (run_setting e files) (at_lines e r.rest) e' mid new end →
      HaltedPassing remaining at to a.limits (run_setting a files) (after (run_setting a files) s r.t) e' mid new end
  passing_halted_on e' end h =
      rw r.is (rw (← (same_setting a e files same)) (rw (← same.same_limits) h))

  -- the run goes on
  abbrev pub pass_on : (e' : RunState) → StepsPassing remaining at to r.rest e.limits (run_setting e files) (at_lines e r.rest) e' mid new (Ok tt) → Reached remaining from to a.limits (run_setting a files) s e' old new
  pass_on e' (rest, taken, ran) =
      let g : Setting = run_setting a files in
      let h = passed_on e' rest ran in
      record {
        t = r.t + h.t;
        rest = rest;
        taken = TakesLines-then remaining from at to s.lines r.rest rest r.taken taken;
        is = after-add g s r.t h.t ∙ h.is;
        within = StaysWithin-add a.limits g s r.t h.t r.within h.within;
        gained = rw written-add (WereSent-append r.gained h.sinks);
      }

  -- it ends
  abbrev pub pass_stop : (e' : RunState) (end : Ended) → StepsPassing remaining at to r.rest e.limits (run_setting e files) (at_lines e r.rest) e' mid new (Err end) →
      (k : ℕ) × TakesAtMost (remaining from.source) (remaining to.source) k → length to.ahead ≤ max (length from.ahead) from.read_ahead → from.read_ahead ≡ a.limits.look → (end ≡ InputBroken → to.ahead ≡ []) →
      (out : List (ℕ × ℕ)) × WereSent old new out × CameToEnd a.limits (run_setting a files) s out (input_of remaining from) (input_of remaining to) e'.state end
  pass_stop e' end halted shrinks ahead look drained =
      let g : Setting = run_setting a files in
      let h = passing_halted_on e' end halted in
      let u : ℕ = h.stopped.t in
      let rest : r.rest ≡ (after g s r.t).lines = sym (ap (λ (x : MachineState). x.lines) r.is) in
      let are : s.lines ≡ (r.taken.lines ++ h.lines) ++ (after g s (r.t + u)).lines =
      r.taken.are ∙ ap (λ x. r.taken.lines ++ x) (rest ∙ h.are ∙ ap (λ x. h.lines ++ x) (sym h.stopped.lines ∙ ap (λ (x : MachineState). x.lines) (sym (after-add g s r.t u)))) ∙ sym (append_assoc r.taken.lines h.lines _) in
      let sizes : size_of r.taken.lines + size_of h.lines ≤ size_of (r.taken.lines ++ h.lines) = let e = size_of-append r.taken.lines h.lines in omega arith in
      let all = LosesPartAfter-then (left remaining from) (left remaining at) (left remaining to) _ _ _ _ sizes r.taken.bytes h.bytes in (
        written g s r.t ++ h.stopped.out,
        WereSent-append r.gained h.stopped.sinks,
        record {
          t = r.t + u;
          cause = Cause-add a.limits g s h.stopped.out end r.t u r.within h.stopped.cause;
          lines_taken = takes_of remaining from to a.limits g s (r.t + u) (lost a.limits end) (more_at a.limits end) (r.taken.lines ++ h.lines) are all shrinks (rw look at ahead) (lost_more a.limits end);
          broken = λ is.
              let L : Ended → Type 0 = λ end. LosesPartAfter (left remaining from) (left remaining to) (size_of (r.taken.lines ++ h.lines)) (lost a.limits end) in
              let all_left : left remaining to ≡ remaining to.source = ap (λ bs. prepend_known bs (remaining to.source)) (drained is) ∙ prepend_known-nil _ in
              (r.taken.lines ++ h.lines, are, rw (← all_left) (subst L is all));
          holds = HoldsAt-add g s e'.state r.t u (named_sink end) (without_lines g (after g s r.t) u e' h.rest (named_sink end) h.stopped.holds);
        },
      )

-- a block that is taken from what is still to come
block_gone : {R : Type 0} (remaining : R → Option (List ℕ)) (old new : Stream R) (block bytes : List ℕ) → left remaining old ≡ Some ((block ++ 10 ∷ []) ++ bytes) → left remaining new ≡ Some bytes →
    TakesAtMost (left remaining old) (left remaining new) (size_of (split_lines (block ++ 10 ∷ [])))
block_gone {R} remaining old new block bytes was is =
    let T : Option (List ℕ) → Option (List ℕ) → Type 0 = λ a b. TakesAtMost a b (size_of (split_lines (block ++ 10 ∷ []))) in
    let size : length (block ++ 10 ∷ []) ≡ size_of (split_lines (block ++ 10 ∷ [])) = ap length (sym (block_bytes block)) ∙ length-bytes_of (split_lines (block ++ 10 ∷ [])) in
    subst (λ a. T a (left remaining new)) (sym was) (subst (λ b. T (Some ((block ++ 10 ∷ []) ++ bytes)) b) (sym is) ((block ++ 10 ∷ []), refl, omega arith))

pub block_taken : {R : Type 0} (remaining : R → Option (List ℕ)) (old new : Stream R) (block bytes : List ℕ) → left remaining old ≡ Some ((block ++ 10 ∷ []) ++ bytes) → left remaining new ≡ Some bytes →
    TakesLines remaining old new (split_lines (block ++ 10 ∷ []) ++ split_lines bytes) (split_lines bytes)
block_taken {R} remaining old new block bytes was is = record {
  known = ap (option_map split_lines) is;
  lines = split_lines (block ++ 10 ∷ []);
  are = refl;
  bytes = block_gone remaining old new block bytes was is;
}

-- the lines of a block, passed over
pub lines_passed : (e : RunState) (g : Setting) (c : ℕ) (old new : SinkView) (block rest : List (List ℕ)) → 0 < length block → FindsAsItSearches g → IsIdleIn g c → CanPass e.limits g c (at_lines e (block ++ rest)) →
    BlockLeftAlone g c e.state.number block rest → All (λ x. length x ≤ e.limits.space) block → e.state.turns + length block * (c + 1) ≤ e.limits.turns → WereSent old new (passed_out g.quiet block) →
    MovesLedTo e.limits g (at_lines e (block ++ rest)) (at_lines (engine_after e g c (length block)) rest) old new
lines_passed e g c old new [] rest some finds idle can alone short turns took = absurd (omega arith)
lines_passed e g c old new (line ∷ lines) rest some finds idle can alone short turns took =
    all_passed e.limits g (at_lines e (line ∷ (lines ++ rest))) (at_lines (engine_after e g c (length (line ∷ lines))) rest) (passed_out g.quiet (line ∷ lines)) (length (line ∷ lines) * moves_of c) old new
    (idle_block e.limits g c finds idle (at_lines e (line ∷ (lines ++ rest))) can line lines rest refl (block_left_alone g c e.state.number (line ∷ lines) rest alone) short turns) took

pub block_passed : {R : Type 0} (remaining : R → Option (List ℕ)) (from to : Stream R) (block bytes : List ℕ) (e : RunState) (g : Setting) (c : ℕ) (old new : SinkView) →
    left remaining from ≡ Some ((block ++ 10 ∷ []) ++ bytes) → left remaining to ≡ Some bytes → FindsAsItSearches g → IsIdleIn g c →
    CanPass e.limits g c (at_lines e (split_lines (block ++ 10 ∷ []) ++ split_lines bytes)) → BlockLeftAlone g c e.state.number (split_lines (block ++ 10 ∷ [])) (split_lines bytes) →
    All (λ x. length x ≤ e.limits.space) (split_lines (block ++ 10 ∷ [])) → e.state.turns + length (split_lines (block ++ 10 ∷ [])) * (c + 1) ≤ e.limits.turns → WereSent old new (cond g.quiet [] (to_sink 0 (block ++ 10 ∷ []))) →
    StepsPassing remaining from to (split_lines (block ++ 10 ∷ []) ++ split_lines bytes) e.limits g (at_lines e (split_lines (block ++ 10 ∷ []) ++ split_lines bytes)) (engine_after e g c (length (split_lines (block ++ 10 ∷ [])))) old new (Ok tt)
block_passed {R} remaining from to block bytes e g c old new was is finds idle can alone short turns took =
    let out : cond g.quiet [] (to_sink 0 (block ++ 10 ∷ [])) ≡ passed_out g.quiet (split_lines (block ++ 10 ∷ [])) = ap (λ bs. cond g.quiet [] (to_sink 0 bs)) (sym (block_bytes block)) in (
      split_lines bytes,
      block_taken remaining from to block bytes was is,
      lines_passed e g c old new (split_lines (block ++ 10 ∷ [])) (split_lines bytes) (some_lines block []) finds idle can alone short turns (subst (λ (w : List (ℕ × ℕ)). WereSent old new w) out took),
    )

-- an end that names a sink loses nothing
nothing_lost : (l : LimitsView) (end : Ended) → named_sink end ≡ Some 0 → lost l end ≡ 0
nothing_lost l (PatternFull n) names = cc
nothing_lost l InputBroken names = cc
nothing_lost l other names = refl

-- A sink took no more inside the last of the lines that end here; `tail` is the rest of what was to be written.
pub block_broken : {R : Type 0} (remaining : R → Option (List ℕ)) (from to : Stream R) (block tail bytes : List ℕ) (e e' : RunState) (g : Setting) (c : ℕ) (before : List (List ℕ)) (line : List ℕ) (d : ℕ) (old new : SinkView) (end : Ended) →
    left remaining from ≡ Some ((block ++ 10 ∷ []) ++ (tail ++ bytes)) → left remaining to ≡ Some (tail ++ bytes) → split_lines (block ++ 10 ∷ []) ≡ before ++ line ∷ [] → FindsAsItSearches g → IsIdleIn g c →
    CanPass e.limits g c (at_lines e (split_lines (block ++ 10 ∷ []) ++ split_lines (tail ++ bytes))) → BlockLeftAlone g c e.state.number (split_lines (block ++ 10 ∷ [])) (split_lines (tail ++ bytes)) →
    All (λ x. length x ≤ e.limits.space) (split_lines (block ++ 10 ∷ [])) → e.state.turns + length (split_lines (block ++ 10 ∷ [])) * (c + 1) ≤ e.limits.turns → g.quiet ≡ false → d ≤ length line →
    WereSent old new (take (length (bytes_of_lines before) + d) (to_sink 0 ((block ++ 10 ∷ []) ++ tail))) → named_sink end ≡ Some 0 →
    e'.state.pattern ≡ line → e'.state.hold ≡ e.state.hold → e'.state.queue ≡ e.state.queue →
    HaltedPassing remaining from to e.limits g (at_lines e (split_lines (block ++ 10 ∷ []) ++ split_lines (tail ++ bytes))) e' old new end
block_broken {R} remaining from to block tail bytes e e' g c before line d old new end was is parts finds idle can alone short turns loud inside took names pattern hold queue =
    let rest : List (List ℕ) = split_lines (tail ++ bytes) in
    let s : MachineState = at_lines e (split_lines (block ++ 10 ∷ []) ++ rest) in
    let many : length (split_lines (block ++ 10 ∷ [])) ≡ suc (length before) = ap length parts ∙ (let n = length-append before (line ∷ []) in omega arith) in
    let enough : e.state.turns + length before * (c + 1) + 1 + c ≤ e.limits.turns = let all = subst (λ (n : ℕ). e.state.turns + n * (c + 1) ≤ e.limits.turns) many turns in omega (arith, suc-mul (length before) (c + 1)) in
    let whole : bytes_of_lines (before ++ line ∷ []) ≡ block ++ 10 ∷ [] = ap bytes_of_lines (sym parts) ∙ block_bytes block in
    let size : length (bytes_of_lines before) + d ≤ length (to_sink 0 (block ++ 10 ∷ [])) =
    let a = ap length whole in let b = ap length (bytes_of-append before (line ∷ [])) in
    omega (arith, length-append (bytes_of_lines before) (bytes_of_lines (line ∷ [])), length-append line (10 ∷ []), length-to_sink 0 (block ++ 10 ∷ [])) in
    let first : take (length (bytes_of_lines before) + d) (to_sink 0 ((block ++ 10 ∷ []) ++ tail)) ≡ take (length (bytes_of_lines before) + d) (to_sink 0 (bytes_of_lines (before ++ line ∷ []))) =
    ap (take (length (bytes_of_lines before) + d)) (to_sink-append 0 (block ++ 10 ∷ []) tail) ∙ take-append-le (length (bytes_of_lines before) + d) (to_sink 0 (block ++ 10 ∷ [])) (to_sink 0 tail) size
    ∙ ap (λ bs. take (length (bytes_of_lines before) + d) (to_sink 0 bs)) (sym whole) in
    let same_queue = ap length queue in
    record {
      rest = rest;
      stopped = broken_block e.limits g c finds idle s can before line [] rest (at_lines e' rest) d old new end (ap (λ ls. ls ++ rest) parts)
          (subst (λ (ls : List (List ℕ)). AllLeftAlone g c e.state.number ls rest) parts (block_left_alone g c e.state.number (split_lines (block ++ 10 ∷ [])) rest alone))
          (subst (λ (ls : List (List ℕ)). All (λ x. length x ≤ e.limits.space) ls) parts short) enough loud inside (subst (λ (w : List (ℕ × ℕ)). WereSent old new w) first took) names
          (record { pattern = ap length pattern; hold = ap length hold; queue = λ _. same_queue; entries = omega arith }) refl;
      lines = split_lines (block ++ 10 ∷ []);
      are = refl;
      bytes = subst (λ (n : ℕ). LosesPartAfter (left remaining from) (left remaining to) (size_of (split_lines (block ++ 10 ∷ []))) n) (sym (nothing_lost e.limits end names)) (LosesPartAfter-bytes _ _ _ (block_gone remaining from to block (tail ++ bytes) was is));
    }
