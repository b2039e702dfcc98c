-- Blocks of the lines ahead, passed over or broken off.
use Rattle.std.proofs.Common.{◌≡◌, ℕ, suc, zero, ◌<◌, ◌+◌, ◌*◌, ◌-◌, ◌/◌, ◌≤◌, ◌⊎◌, inl, inr, cond, true, false, List, [], ◌∷◌, ◌++◌, length, length-append, length-take, length-take-le, length-drop, take, drop, take-take, take-append-drop, get_or, get_or-take, mul_comm, Contains, Option, Some, None, Result, Ok, Err, refl, subst, sym, ap, ap₂, ◌∙◌, arith, append_assoc, mul-le-mul_left, Fits, Fits-le, w64}
use Rattle.std.proofs.Math.Nat.{div-mul-le_self}
use Rattle.std.proofs.Math.Seq.{get_or-append_seam, take-add, take-append_seam, take-length}
use Rattle.std.proofs.lemmas.List.{drop-append-le, drop-drop, drop-take, drop_more, get_or-drop, get_or_append_left, take_more}
use Rattle.std.proofs.lemmas.Option.{get_or_from_slice_get, slice_get_within}
use Rattle.std.proofs.lemmas.List.Elements.{All-nil}
use Rattle.std.specs.Prelude.{IfSome, OnOk, slice_get}
use Rattle.std.specs.Borrow.{GName}
use Rattle.std.specs.List.{All}
use Rattle.std.specs.Option.{option_map}
use Rattle.std.specs.Io.KnownBytes.{prepend_known}
use Rattle.sedre.specs.Tree.{WrittenExpression}
use Rattle.sedspace.specs.Lines.{is_newline, split_lines, HasNoNewline}
use Rattle.sedspace.specs.Stream.{AreWholeLines, Stream, left, lines_left}
use Rattle.sedspace.proofs.LineLemmas.{lines_at, lines_nil, lines_none}
use Rattle.sedspace.proofs.WholeLemmas.{whole_then}
use Rattle.sedacts.specs.State.{begin, do_at, Setting, finds_in}
use Rattle.sedacts.specs.Move.{newline, none_left, to_sink}
use Rattle.sedacts.specs.Meters.{WereSent, SinkView}
use Rattle.sedacts.specs.Ends.{WithinLimits, named_sink}
use Rattle.sedacts.specs.Calls.{ReadsLines}
use Rattle.sedengine.specs.Advancing.{weight}
use Rattle.sedacts.specs.Run.{RunState, SameRun, at_lines, run_setting, FailedSource}
use Rattle.sedengine.specs.Passing.{AllowsLines, BlockLeftAlone, BreaksOff, BreaksOffBy, PassesLinesOver, StepsPassing, PutsLines, counted_block, engine_after, line_brought}
use Rattle.sedacts.specs.Idle.{ClearTo, AsksNoNumber, IsExtent, IsIdleOf, IsLineOf, RangesIdle, bytes_of_lines, judged}
use Rattle.sedengine.specs.Inside.{IsConsistent, run_state_of}
use Rattle.sedacts.specs.Keeping.{entries_of}
use Rattle.sedacts.specs.declared.block.Extent.{Extent}
use Rattle.sedacts.specs.declared.idle.Idle.{Idle}
use Rattle.sedacts.specs.declared.meter.CutShort.{CutShort}
use Rattle.sedengine.specs.declared.machine.Machine.TheInside.{Inside}
use Rattle.sedspace.specs.Spaces.{SpaceView}
use Rattle.sedengine.specs.declared.next_step.NextStep.TheVariants as p
use Rattle.sedacts.specs.declared.ends.Ended.{Ended}
use Rattle.sedacts.specs.declared.ends.Ended.TheVariants.{InputBroken}
use Rattle.sedengine.specs.declared.machine.passing.IdleLines.{IdleLines}
use Rattle.sedacts.proofs.Gains.{take-to_sink}
use Rattle.sedacts.proofs.Fitting.{sought}
use Rattle.sedacts.proofs.Moves.{after_none, within_none, written_none}
use Rattle.sedacts.proofs.Sending.{WereSent-none}
use Rattle.sedacts.proofs.Streams.{TakesAtMost-none, lines_same}
use Rattle.sedacts.proofs.BlockLemmas.{block_bytes, block_parts, block_short, start_before}
use Rattle.sedengine.proofs.PassingLemmas.{program_finds}
use Rattle.sedengine.proofs.PassingRuns.{block_passed, block_broken}
use Rattle.sedacts.proofs.Walking.{fewer_clear}

mul_le : (a b k : ℕ) → a ≤ b → a * k ≤ b * k
mul_le a b k less = let h = mul-le-mul_left k less in rw (mul_comm a k, mul_comm b k) h

-- whole lines, some of them, end in a newline
whole_some : (w : List ℕ) → AreWholeLines w → 0 < length (split_lines w) → (p : List ℕ) × (w ≡ p ++ 10 ∷ [])
whole_some w (inl none) some = absurd (let no : length (split_lines w) ≡ 0 = ap (λ w. length (split_lines w)) none ∙ ap length lines_nil in omega arith)
whole_some w (inr h) some = h

-- their bytes are those of their lines
whole_bytes : (w : List ℕ) → AreWholeLines w → bytes_of_lines (split_lines w) ≡ w
whole_bytes w (inl none) = ap (λ w. bytes_of_lines (split_lines w)) none ∙ ap bytes_of_lines lines_nil ∙ sym none
whole_bytes w (inr (p, is)) = ap (λ w. bytes_of_lines (split_lines w)) is ∙ block_bytes p ∙ sym is

-- no line of those that end by a place has a match, where no line that ends before it has one
line_clear : (ms : List WrittenExpression) (e : ℕ) (text w more line : List ℕ) (end : ℕ) → ClearTo ms e text end → text ≡ w ++ more → length w ≤ end → IsLineOf line w → finds_in ms e line ≡ false
line_clear ms e text w more line end clear is short part =
    let all : text ≡ part.before ++ (line ++ newline ∷ (part.behind ++ more)) =
    is ∙ ap (λ w. w ++ more) part.is ∙ append_assoc part.before (line ++ newline ∷ part.behind) more ∙ ap (λ w. part.before ++ w) (append_assoc line (newline ∷ part.behind) more) in
    let size = ap length part.is in
    clear part.before line (part.behind ++ more) all (omega (arith, size, short, length-append part.before (line ++ newline ∷ part.behind), length-append line (newline ∷ part.behind)))

pub lines_clear : (ms : List WrittenExpression) (e : ℕ) (text w more : List ℕ) (end : ℕ) → ClearTo ms e text end → text ≡ w ++ more → length w ≤ end → AreWholeLines w → All (λ line. finds_in ms e line ≡ false) (split_lines w)
lines_clear ms e text w more end clear is short (inl none) = subst (λ (ls : List (List ℕ)). All (λ line. finds_in ms e line ≡ false) ls) (sym (ap split_lines none ∙ lines_nil)) (All-nil (λ line. finds_in ms e line ≡ false))
lines_clear ms e text w more end clear is short (inr (p, ends)) = λ k d less.
    let part : IsLineOf (get_or (split_lines w) k d) w = subst (λ (w : List ℕ). IsLineOf (get_or (split_lines w) k d) w) (sym ends) (block_parts p k d (subst (λ (w : List ℕ). k < length (split_lines w)) ends less)) in
    line_clear ms e text w more (get_or (split_lines w) k d) end clear is short part

-- what is known of the bytes to come
known_left : (ahead : List ℕ) (known : Option (List ℕ)) (ls : List (List ℕ)) → option_map split_lines (prepend_known ahead known) ≡ Some ls → (xs : List ℕ) × (known ≡ Some xs) × (ls ≡ split_lines (ahead ++ xs))
known_left ahead None ls is = cc
known_left ahead (Some xs) ls is = (xs, refl, let same : split_lines (ahead ++ xs) ≡ ls = cc in sym same)

some_left : (bytes : List ℕ) → 0 < length bytes → none_left (split_lines bytes) ≡ false
some_left bytes some = some_of (split_lines bytes) (λ none. let no = ap length (lines_none bytes none) in omega arith)
  where
    some_of : (ls : List (List ℕ)) → (ls ≡ [] → ⊥) → none_left ls ≡ false
    some_of [] h = absurd (h refl)
    some_of (l ∷ ls) h = refl

-- a block that is passed over is left alone, whatever comes after what is ahead
alone_of : (e : RunState) (files : ℕ → List ℕ) (ahead xs : List ℕ) (b : IdleLines) → PassesLinesOver e ahead b → BlockLeftAlone (run_setting e files) b.reached e.state.number (split_lines (take b.bytes ahead)) (split_lines (drop b.bytes ahead ++ xs))
alone_of e files ahead xs b h = record {
  unmatched = h.unmatched;
  numbers = λ n asked. subst (λ (k : ℕ). (n ≤ e.state.number) ⊎ (e.state.number + k < n)) h.count (h.clear n asked);
  last = λ asked. let more = h.last asked in some_left (drop b.bytes ahead ++ xs) (omega (arith, more, length-drop b.bytes ahead, length-append (drop b.bytes ahead) xs));
}

-- the first lines of a block that may be passed over may be
abbrev pub shorter : IdleLines → ℕ → ℕ → IdleLines
shorter b bytes lines = record b { bytes = bytes; lines = lines }

All-first : {X : Type 0} (P : X → Type 0) (xs ys : List X) → All P (xs ++ ys) → All P xs
All-first {X} P xs ys h = λ k d less. let low : k < length (xs ++ ys) = omega (arith, less, length-append xs ys) in subst P (get_or_append_left xs ys d k less) (h k d low)

pub passes_fewer : (e : RunState) (ahead w : List ℕ) (b : IdleLines) (n : ℕ) → PassesLinesOver e ahead b → n ≤ b.bytes → w ≡ take n ahead → AreWholeLines w → 0 < length (split_lines w) → PassesLinesOver e ahead (shorter b n (length (split_lines w)))
passes_fewer e ahead w b n h fewer is whole some =
    let within : n ≤ length ahead = omega (arith, h.within) in
    let rest : List ℕ = take (b.bytes - n) (drop n ahead) in
    let size : n + (b.bytes - n) ≡ b.bytes = omega (arith, fewer) in
    let parts : take b.bytes ahead ≡ w ++ rest = ap (λ k. take k ahead) (sym size) ∙ take-add n (b.bytes - n) ahead ∙ ap (λ w. w ++ rest) (sym is) in
    let all : split_lines (take b.bytes ahead) ≡ split_lines w ++ split_lines rest = ap split_lines parts ∙ whole_then w rest whole in
    let few : length (split_lines w) ≤ b.lines = let n = ap length all in omega (arith, h.count, n, length-append (split_lines w) (split_lines rest)) in
    let cost : length (split_lines w) * (b.reached + 1) ≤ b.lines * (b.reached + 1) = mul_le (length (split_lines w)) b.lines (b.reached + 1) few in
    record {
      idle = h.idle;
      ranges = h.ranges;
      none = h.none;
      judged = h.judged;
      one = h.one;
      few = h.few;
      some = some;
      within = within;
      whole = subst AreWholeLines is whole;
      count = ap (λ w. length (split_lines w)) is;
      short = omega (arith, h.short, fewer);
      turns = omega (arith, h.turns, cost);
      clear = λ k asked. fewer_clear k e.state.number b.lines (length (split_lines w)) few (h.clear k asked);
      unmatched = λ x asked. subst (λ (w : List ℕ). All (λ line. finds_in e.script.expressions x line ≡ false) (split_lines w)) is (All-first (λ line. finds_in e.script.expressions x line ≡ false) (split_lines w) (split_lines rest) (subst (λ (ls : List (List ℕ)). All (λ line. finds_in e.script.expressions x line ≡ false) ls) all (h.unmatched x asked)));
      last = λ asked. let more = h.last asked in omega (arith, more, fewer);
    }

-- nothing is passed over
pub nothing_passed : {R : Type 0} (remaining : R → Option (List ℕ)) (from : Stream R) (ls : List (List ℕ)) (e e' : RunState) (g : Setting) (sinks : SinkView) → lines_left remaining from ≡ Some ls → WithinLimits e.limits (at_lines e ls) → e' ≡ e →
    StepsPassing remaining from from ls e.limits g (at_lines e ls) e' sinks sinks (Ok tt)
nothing_passed {R} remaining from ls e e' g sinks known fits same =
    rw same (ls, lines_same remaining from ls known, record { t = 0; is = after_none g (at_lines e ls); within = within_none e.limits g (at_lines e ls) fits; sinks = rw written_none (WereSent-none sinks) })

same_engine : (e : RunState) (files : ℕ → List ℕ) (b : IdleLines) (k : ℕ) → b.judged ≡ judged e.script.commands e.script.substitutions b.reached → b.lines ≡ k → engine_after e (run_setting e files) b.reached k ≡ counted_block e b
same_engine e files b k used count = cc

-- A block of the lines ahead was passed over.
pub passes : {R : Type 0} (remaining : R → Option (List ℕ)) (from to : Stream R) (ls : List (List ℕ)) (e e' : RunState) (files : ℕ → List ℕ) (b : IdleLines) (old new : SinkView) →
    lines_left remaining from ≡ Some ls → PassesLinesOver e from.ahead b → WithinLimits e.limits (at_lines e ls) → e.state.tasks ≡ begin ∷ [] → e.state.pattern ≡ [] → to ≡ record from { ahead = drop b.bytes from.ahead } → e' ≡ counted_block e b →
    WereSent old new (cond e.script.quiet [] (to_sink 0 (take b.bytes from.ahead))) → StepsPassing remaining from to ls e.limits (run_setting e files) (at_lines e ls) e' old new (Ok tt)
passes {R} remaining from to ls e e' files b old new known h fits begins empty taken counted sent =
    let n : ℕ = b.bytes in
    let w : List ℕ = take n from.ahead in
    let p = whole_some w h.whole (omega (arith, h.some, h.count)) in
    let k = known_left from.ahead (remaining from.source) ls known in
    let bytes : List ℕ = drop n from.ahead ++ k.0 in
    let was : left remaining from ≡ Some ((p.0 ++ 10 ∷ []) ++ bytes) =
    ap (prepend_known from.ahead) k.1 ∙ ap (λ a. Some (a ++ k.0)) (sym (take-append-drop n from.ahead)) ∙ ap Some (append_assoc w (drop n from.ahead) k.0) ∙ ap (λ w. Some (w ++ bytes)) p.1 in
    let is : left remaining to ≡ Some bytes = ap (left remaining) taken ∙ ap (prepend_known (drop n from.ahead)) k.1 in
    let all : ls ≡ split_lines (p.0 ++ 10 ∷ []) ++ split_lines bytes =
    k.2 ∙ ap (λ a. split_lines (a ++ k.0)) (sym (take-append-drop n from.ahead)) ∙ ap split_lines (append_assoc w (drop n from.ahead) k.0) ∙ whole_then w bytes h.whole ∙ ap (λ w. split_lines w ++ split_lines bytes) p.1 in
    let count : b.lines ≡ length (split_lines (p.0 ++ 10 ∷ [])) = h.count ∙ ap (λ w. length (split_lines w)) p.1 in
    let size : length (p.0 ++ 10 ∷ []) ≤ e.limits.space = let n = ap length p.1 in omega (arith, n, length-take-le b.bytes from.ahead h.within, h.short) in
    rw all (rw (← (same_engine e files b (length (split_lines (p.0 ++ 10 ∷ []))) h.judged count ∙ sym counted))
    (block_passed remaining from to p.0 bytes e (run_setting e files) b.reached old new was is (program_finds e.script files) h.idle
    (record { fits = record { pattern = fits.pattern; hold = fits.hold; queue = fits.queue; turns = fits.turns }; begins = begins; empty = empty; none = h.none; ranges = h.ranges })
    (subst (λ (w : List ℕ). BlockLeftAlone (run_setting e files) b.reached e.state.number (split_lines w) (split_lines bytes)) p.1 (alone_of e files from.ahead k.0 b h))
    (block_short p.0 e.limits.space size) (subst (λ (k : ℕ). e.state.turns + k * (b.reached + 1) ≤ e.limits.turns) count h.turns)
    (subst (λ (w : List ℕ). WereSent old new (cond e.script.quiet [] (to_sink 0 w))) p.1 sent)))

-- A sink took no more within a block.
pub breaks : {R : Type 0} (remaining : R → Option (List ℕ)) (from to : Stream R) (ls : List (List ℕ)) (e e' : RunState) (files : ℕ → List ℕ) (b : IdleLines) (done : ℕ) (old new : SinkView) (end : Ended) →
    lines_left remaining from ≡ Some ls → PassesLinesOver e from.ahead b → WithinLimits e.limits (at_lines e ls) → e.state.tasks ≡ begin ∷ [] → e.state.pattern ≡ [] → (x : BreaksOff from to e e' done) → x.start + length x.line < b.bytes → done < b.bytes →
    e.script.quiet ≡ false → WereSent old new (to_sink 0 (take done (take b.bytes from.ahead))) → named_sink end ≡ Some 0 → StepsPassing remaining from to ls e.limits (run_setting e files) (at_lines e ls) e' old new (Err end)
breaks {R} remaining from to ls e e' files b done old new end known h fits begins empty x ends less loud sent names =
    let n : ℕ = x.start + length x.line + 1 in
    let first : List ℕ = take x.start from.ahead in
    let p : List ℕ = first ++ x.line in
    let k = known_left from.ahead (remaining from.source) ls known in
    let start_within : x.start ≤ length from.ahead = omega (arith, x.within) in
    let size : length p + 1 ≡ n = omega (arith, length-append first x.line, length-take-le x.start from.ahead start_within) in
    let are : from.ahead ≡ (p ++ 10 ∷ []) ++ x.rest =
    x.are ∙ sym (append_assoc first x.line (newline ∷ x.rest)) ∙ sym (append_assoc p (10 ∷ []) x.rest) in
    let long : length (p ++ 10 ∷ []) ≡ n = omega (arith, size, length-append p (10 ∷ [])) in
    let taken_is : p ++ 10 ∷ [] ≡ take n from.ahead = sym (take-append_seam (p ++ 10 ∷ []) x.rest) ∙ ap₂ (λ k a. take k a) long (sym are) in
    let line_is : split_lines (p ++ 10 ∷ []) ≡ split_lines first ++ x.line ∷ [] =
    ap split_lines (append_assoc first x.line (10 ∷ [])) ∙ whole_then first (x.line ++ 10 ∷ []) x.whole ∙ ap (λ ls. split_lines first ++ ls) (lines_at x.line [] x.clear ∙ ap (λ ls. x.line ∷ ls) lines_nil) in
    let some : 0 < length (split_lines (p ++ 10 ∷ [])) = let n = ap length line_is in omega (arith, n, length-append (split_lines first) (x.line ∷ [])) in
    let b' : IdleLines = shorter b n (length (split_lines (p ++ 10 ∷ []))) in
    let h' : PassesLinesOver e from.ahead b' = passes_fewer e from.ahead (p ++ 10 ∷ []) b n h (omega (arith, ends)) taken_is (inr (p, refl)) some in
    let d : ℕ = done - x.start in
    let before_size : length (bytes_of_lines (split_lines first)) ≡ x.start = ap length (whole_bytes first x.whole) ∙ length-take-le x.start from.ahead start_within in
    let at : done ≡ length (bytes_of_lines (split_lines first)) + d = omega (arith, before_size, x.before) in
    let rest_left : drop n from.ahead ≡ x.rest = let n' = sym long in ap₂ (λ k a. drop k a) n' are ∙ seam (p ++ 10 ∷ []) x.rest in
    let was : left remaining from ≡ Some ((p ++ 10 ∷ []) ++ (x.rest ++ k.0)) =
    ap (prepend_known from.ahead) k.1 ∙ ap (λ a. Some (a ++ k.0)) are ∙ ap Some (append_assoc (p ++ 10 ∷ []) x.rest k.0) in
    let is : left remaining to ≡ Some (x.rest ++ k.0) = ap (left remaining) x.taken ∙ ap (prepend_known x.rest) k.1 in
    let all : ls ≡ split_lines (p ++ 10 ∷ []) ++ split_lines (x.rest ++ k.0) =
    k.2 ∙ ap (λ a. split_lines (a ++ k.0)) are ∙ ap split_lines (append_assoc (p ++ 10 ∷ []) x.rest k.0) ∙ whole_then (p ++ 10 ∷ []) (x.rest ++ k.0) (inr (p, refl)) in
    let piece : take done (take b.bytes from.ahead) ≡ take done from.ahead = take-take done b.bytes from.ahead (omega (arith, less)) in
    let took : WereSent old new (take (length (bytes_of_lines (split_lines first)) + d) (to_sink 0 ((p ++ 10 ∷ []) ++ x.rest))) =
    subst (λ (k : ℕ). WereSent old new (take k (to_sink 0 ((p ++ 10 ∷ []) ++ x.rest)))) at (subst (λ (a : List ℕ). WereSent old new (take done (to_sink 0 a))) are
    (subst (λ (o : List (ℕ × ℕ)). WereSent old new o) (ap (to_sink 0) piece ∙ sym (take-to_sink 0 done from.ahead)) sent)) in
    let short : length (p ++ 10 ∷ []) ≤ e.limits.space = omega (arith, long, ends, h.short) in
    let alone : BlockLeftAlone (run_setting e files) b.reached e.state.number (split_lines (p ++ 10 ∷ [])) (split_lines (x.rest ++ k.0)) =
    subst (λ (r : List ℕ). BlockLeftAlone (run_setting e files) b.reached e.state.number (split_lines (p ++ 10 ∷ [])) (split_lines (r ++ k.0))) rest_left
    (subst (λ (w : List ℕ). BlockLeftAlone (run_setting e files) b.reached e.state.number (split_lines w) (split_lines (drop n from.ahead ++ k.0))) (sym taken_is) (alone_of e files from.ahead k.0 b' h')) in
    rw all
    (block_broken remaining from to p x.rest k.0 e e' (run_setting e files) b.reached (split_lines first) x.line d old new end was is line_is (program_finds e.script files) h.idle
    (record { fits = record { pattern = fits.pattern; hold = fits.hold; queue = fits.queue; turns = fits.turns }; begins = begins; empty = empty; none = h.none; ranges = h.ranges })
    alone (block_short p e.limits.space short) h'.turns loud (omega (arith, at, before_size, x.inside)) took names
    (ap (λ (e : RunState). e.state.pattern) x.brought) (ap (λ (e : RunState). e.state.hold) x.brought) (ap (λ (e : RunState). e.state.queue) x.brought))
  where
    seam : (xs ys : List ℕ) → drop (length xs) (xs ++ ys) ≡ ys
    seam [] ys = refl
    seam (x ∷ xs) ys = seam xs ys

-- What was ahead is shorter, and nothing was read.
pub reads_ahead : {R : Type 0} (remaining : R → Option (List ℕ)) (failures : R → ℕ) (reference : R → List GName) (from to : Stream R) (rest : List ℕ) (r : Result Unit Ended) → to ≡ record from { ahead = rest } → length rest ≤ length from.ahead →
    (r ≡ Err InputBroken → ⊥) → ReadsLines remaining failures reference from to r
reads_ahead {R} remaining failures reference from to rest r is fewer sound =
    rw is (record {
      same_read_ahead = refl;
      same_reference = refl;
      ahead = omega (arith, fewer);
      shrinks = (0, TakesAtMost-none _);
      sound = still r;
      failed = λ none. unread r sound;
      broken = λ broken none. absurd (sound broken);
    })
  where
    still : (r : Result Unit Ended) → OnOk r (from.fault ≡ None → from.fault ≡ None)
    still (Ok u) = λ none. none
    still (Err end) = tt

    unread : (r : Result Unit Ended) → (r ≡ Err InputBroken → ⊥) → FailedSource (failures from.source) (failures from.source) r
    unread (Ok u) h = refl
    unread (Err InputBroken) h = absurd (h refl)
    unread (Err other) h = refl

-- The fields of an engine before a cycle.
pub no_entries : (a : Inside) → length a.queue.items ≤ 0 → entries_of a.script a.queue.items ≡ []
no_entries a none = ap (entries_of a.script) (nothing a.queue.items none)
  where
    nothing : (xs : List ℕ) → length xs ≤ 0 → xs ≡ []
    nothing [] h = refl
    nothing (x ∷ xs) h = absurd (omega arith)

-- so many turns are left
turns_left : (turns limit c most m : ℕ) → turns ≤ limit → m ≤ most → m ≤ (limit - turns) / (c + 1) → turns + m * (c + 1) ≤ limit
turns_left turns limit c most m within fewer cost =
    let whole = div-mul-le_self (limit - turns) (c + 1) in
    let less : m * (c + 1) ≤ (limit - turns) / (c + 1) * (c + 1) = mul_le m ((limit - turns) / (c + 1)) (c + 1) cost in
    omega (arith, whole, less, within)

pub allows : (a : Inside) (e : RunState) (c most m : ℕ) → run_state_of a ≡ e → IsConsistent a → length a.queue.items ≤ 0 → RangesIdle a.script.commands c a.ranges.items → AsksNoNumber a.script.commands a.script.substitutions c a.number most → m ≤ most → m ≤ (a.limits.turns - a.turns) / (c + 1) → AllowsLines e c m
allows a e c most m seen i none ranges clear fewer cost =
    rw (← seen) (record {
      none = no_entries a none;
      ranges = ranges;
      clear = λ n asked. fewer_clear n a.number most m fewer (clear n asked);
      turns = turns_left a.turns a.limits.turns c most m i.turns fewer cost;
    })

pub turns_fit : (a : Inside) (e : RunState) (k : ℕ) → run_state_of a ≡ e → e.state.turns + k ≤ e.limits.turns → a.turns + k ≤ a.limits.turns
turns_fit a e k seen h = rw (← seen) at h

pub le_mul : (n c : ℕ) → n ≤ n * (c + 1)
le_mul n c = let h = mul_le 1 (c + 1) n (omega arith) in grind (arith, mul_comm n (c + 1))

take_none : (xs : List ℕ) → take 0 xs ≡ []
take_none [] = refl
take_none (x ∷ xs) = refl

-- What was found is passed over: so many bytes are seen, the lines of which end by a place before which no line has a match.
pub found_lines : (a : Inside) (e : RunState) (ahead : List ℕ) (i : Idle) (most seen end whole : ℕ) (x : Extent) → run_state_of a ≡ e → IsConsistent a → a.idle ≡ Some i → AllowsLines e i.reached most → seen ≤ length ahead → seen ≤ a.limits.space →
    end ≤ seen → ((e : ℕ) → Contains i.expressions.items e → ClearTo a.matchers.items e (take seen ahead) end) → whole ≤ end → AreWholeLines (take whole ahead) → (i.asks_last ≡ true → (whole ≡ 0) ⊎ (whole < length ahead)) → IsExtent (take whole ahead) most x → (x.lines ≡ 0 → ⊥) →
    PassesLinesOver e ahead (record { bytes = x.bytes; lines = x.lines; reached = i.reached; judged = i.judged })
found_lines a e ahead i most seen end whole x was known is allowed inside space low clear whole_low wholes last extent some =
    let Q : RunState → Type 0 = λ e. AllowsLines e i.reached most → PassesLinesOver e ahead (record { bytes = x.bytes; lines = x.lines; reached = i.reached; judged = i.judged }) in
    subst Q was (λ allowed.
    let shown : IfSome (Some i) (IsIdleOf a.script) = subst (λ (o : Option Idle). IfSome o (IsIdleOf a.script)) is known.idle in
    let d = shown.describes in
    let size : length (take whole ahead) ≡ whole = length-take-le whole ahead (omega (arith, whole_low, low, inside)) in
    let bytes_low : x.bytes ≤ whole = omega (arith, extent.within, size) in
    let same : take x.bytes (take whole ahead) ≡ take x.bytes ahead = take-take x.bytes whole ahead bytes_low in
    let parts : take seen ahead ≡ take x.bytes ahead ++ take (seen - x.bytes) (drop x.bytes ahead) = let k : x.bytes + (seen - x.bytes) ≡ seen = omega (arith, bytes_low, whole_low, low) in ap (λ n. take n ahead) (sym k) ∙ take-add x.bytes (seen - x.bytes) ahead in
    let few : x.lines * (i.reached + 1) ≤ most * (i.reached + 1) = mul_le x.lines most (i.reached + 1) extent.few in
    let long : length (take x.bytes ahead) ≡ x.bytes = length-take-le x.bytes ahead (omega (arith, bytes_low, whole_low, low, inside)) in
    let ends : AreWholeLines (take x.bytes ahead) = subst AreWholeLines same extent.whole in
    let count : x.lines ≡ length (split_lines (take x.bytes ahead)) = extent.count ∙ ap (λ w. length (split_lines w)) same in
    let sought_is = sought a.script.expressions a.limits.nodes a.matchers.items known.matchers in
    record {
      idle = d.idle;
      ranges = allowed.ranges;
      none = allowed.none;
      judged = d.judged;
      one = shown.judged;
      few = shown.few;
      some = positive x.lines some;
      within = omega (arith, bytes_low, whole_low, low, inside);
      whole = ends;
      count = count;
      short = omega (arith, bytes_low, whole_low, low, space);
      turns = omega (arith, few, allowed.turns);
      clear = λ n asked. fewer_clear n a.number most x.lines extent.few (allowed.clear n asked);
      unmatched = λ k asked. subst (λ (ms : List WrittenExpression). All (λ line. finds_in ms k line ≡ false) (split_lines (take x.bytes ahead))) sought_is
          (lines_clear a.matchers.items k (take seen ahead) (take x.bytes ahead) (take (seen - x.bytes) (drop x.bytes ahead)) end (clear k (d.expressions k asked)) parts (omega (arith, long, bytes_low, whole_low)) ends);
      last = λ asked. some_behind (last (d.last asked)) (positive x.lines some) count bytes_low;
    }) allowed
  where
    positive : (n : ℕ) → (n ≡ 0 → ⊥) → 0 < n
    positive zero h = absurd (h refl)
    positive (suc n) h = omega arith

    some_behind : (whole ≡ 0) ⊎ (whole < length ahead) → 0 < x.lines → x.lines ≡ length (split_lines (take x.bytes ahead)) → x.bytes ≤ whole → x.bytes < length ahead
    some_behind (inr more) some count low = omega (arith, low, more)
    some_behind (inl none) some count low =
        let zero : x.bytes ≡ 0 = omega (arith, low, none) in
        let nothing : length (split_lines (take x.bytes ahead)) ≡ 0 = ap (λ n. length (split_lines (take n ahead))) zero ∙ ap (λ w. length (split_lines w)) (take_none ahead) ∙ ap length lines_nil in
        absurd (omega (arith, some, count, nothing))

-- Bytes that end in a newline hold one from a place on.
slice_ends : (ahead : List ℕ) (start bytes : ℕ) → start < bytes → bytes ≤ length ahead → AreWholeLines (take bytes ahead) → (q : List ℕ) × (take (bytes - start) (drop start ahead) ≡ q ++ 10 ∷ [])
slice_ends ahead start bytes less within (inl none) = absurd (let no = ap length none in omega (arith, no, length-take-le bytes ahead within, less))
slice_ends ahead start bytes less within (inr (p, is)) =
    let size = ap length is in
    let low : start ≤ length p = omega (arith, size, length-append p (10 ∷ []), length-take-le bytes ahead within, less) in
    let at : start + (bytes - start) ≡ bytes = omega (arith, less) in
    (drop start p, sym (drop-take start (bytes - start) ahead) ∙ ap (λ n. drop start (take n ahead)) at ∙ ap (drop start) is ∙ drop-append-le start p (10 ∷ []) low)

not_clear : (q : List ℕ) → HasNoNewline (q ++ 10 ∷ []) → ⊥
not_clear q h = let here : is_newline (get_or (q ++ 10 ∷ []) (length q) 0) ≡ false = h (length q) 0 (omega (arith, length-append q (10 ∷ []))) in let at : get_or (q ++ 10 ∷ []) (length q) 0 ≡ 10 = get_or-append_seam q 10 [] 0 in let wrong : true ≡ false = ap is_newline (sym at) ∙ here in cc

-- the first newline from a place on
newline_there : (ahead : List ℕ) (start bytes n : ℕ) → start < bytes → bytes ≤ length ahead → AreWholeLines (take bytes ahead) → HasNoNewline (take n (take (bytes - start) (drop start ahead))) →
    (n ≡ length (take (bytes - start) (drop start ahead))) ⊎ (slice_get (take (bytes - start) (drop start ahead)) n ≡ Some 10) → (start + n < bytes) × (get_or ahead (start + n) 0 ≡ 10)
newline_there ahead start bytes n less within whole clear (inl all) =
    let q = slice_ends ahead start bytes less within whole in
    absurd (not_clear q.0 (subst HasNoNewline (ap (λ k. take k (take (bytes - start) (drop start ahead))) all ∙ take-length _ ∙ q.1) clear))
newline_there ahead start bytes n less within whole clear (inr is) =
    let low : n < length (take (bytes - start) (drop start ahead)) = slice_get_within _ n 10 is in
    let few : n < bytes - start = omega (arith, low, length-take (bytes - start) (drop start ahead)) in
    (omega (arith, few), sym (get_or-drop start ahead n 0) ∙ sym (get_or-take (bytes - start) (drop start ahead) n 0 few) ∙ get_or_from_slice_get _ n 10 0 is)

-- the line that begins at a place and ends with a newline
pub line_parts : (ahead : List ℕ) (start n : ℕ) → start + n < length ahead → get_or ahead (start + n) 0 ≡ 10 → ahead ≡ take start ahead ++ (take n (drop start ahead) ++ 10 ∷ drop (start + n + 1) ahead)
line_parts ahead start n less is =
    let d : List ℕ = drop start ahead in
    let inside : n < length d = omega (arith, less, length-drop start ahead) in
    let there : get_or d n 0 ≡ 10 = get_or-drop start ahead n 0 ∙ is in
    let at : n + 1 + start ≡ start + n + 1 = omega arith in
    let rest : drop n d ≡ 10 ∷ drop (start + n + 1) ahead = drop_more d n 0 inside ∙ ap₂ (λ b w. b ∷ w) there (drop-drop (n + 1) start ahead ∙ ap (λ k. drop k ahead) (omega arith)) in
    sym (take-append-drop start ahead) ∙ ap (λ w. take start ahead ++ w) (sym (take-append-drop n d) ∙ ap (λ w. take n d ++ w) rest)

pub whole_through : (ahead : List ℕ) (start n : ℕ) → start + n < length ahead → get_or ahead (start + n) 0 ≡ 10 → AreWholeLines (take (start + n + 1) ahead)
whole_through ahead start n less is = inr (take (start + n) ahead, take_more ahead (start + n) 0 less ∙ ap (λ b. take (start + n) ahead ++ b ∷ []) is)

-- it comes no earlier than what holds none
pub newline_after : (ahead : List ℕ) (start n done : ℕ) → done ≤ length ahead → get_or ahead (start + n) 0 ≡ 10 → HasNoNewline (drop start (take done ahead)) → (start + n < done → ⊥)
newline_after ahead start n done within is clear = λ less.
    let inside : n < length (drop start (take done ahead)) = omega (arith, less, length-drop start (take done ahead), length-take-le done ahead within) in
    let here : is_newline (get_or (drop start (take done ahead)) n 0) ≡ false = clear n 0 inside in
    let at : get_or (drop start (take done ahead)) n 0 ≡ 10 = get_or-drop start (take done ahead) n 0 ∙ get_or-take done ahead (start + n) 0 less ∙ is in
    let wrong : true ≡ false = ap is_newline (sym at) ∙ here in cc

-- A sink took no more after `done` bytes of lines that end by `bytes`: the line of that place was brought.
pub breaks_off : {R : Type 0} (old new : Stream R) (e e' : RunState) (start n done bytes : ℕ) → start ≤ done → done < bytes → bytes ≤ length old.ahead → AreWholeLines (take bytes old.ahead) → AreWholeLines (take start old.ahead) →
    HasNoNewline (drop start (take done old.ahead)) → HasNoNewline (take n (take (bytes - start) (drop start old.ahead))) → (n ≡ length (take (bytes - start) (drop start old.ahead))) ⊎ (slice_get (take (bytes - start) (drop start old.ahead)) n ≡ Some 10) →
    new ≡ record old { ahead = drop (start + n + 1) old.ahead } → e' ≡ line_brought e (take n (drop start old.ahead)) → BreaksOffBy old new e e' done bytes
breaks_off {R} old new e e' start n done bytes before less within whole first rest clear ends taken brought =
    let ahead : List ℕ = old.ahead in
    let there = newline_there ahead start bytes n (omega (arith, before, less)) within whole clear ends in
    let inside : start + n < length ahead = let low = there.0 in omega (arith, low, within) in
    let size : length (take n (drop start ahead)) ≡ n = length-take-le n (drop start ahead) (omega (arith, inside, length-drop start ahead)) in
    let same : take n (take (bytes - start) (drop start ahead)) ≡ take n (drop start ahead) = take-take n (bytes - start) (drop start ahead) (let low = there.0 in omega (arith, low)) in
    let late = newline_after ahead start n done (omega (arith, less, within)) there.1 rest in (
      record {
        start = start;
        line = take n (drop start ahead);
        rest = drop (start + n + 1) ahead;
        whole = first;
        are = line_parts ahead start n inside there.1;
        within = omega (arith, size, inside);
        clear = subst HasNoNewline same clear;
        before = before;
        inside = not_less done (start + length (take n (drop start ahead))) (λ low. late (omega (arith, low, size)));
        taken = taken;
        brought = brought;
      },
      let low = there.0 in omega (arith, size, low),
    )
  where
    not_less : (a b : ℕ) → (b < a → ⊥) → a ≤ b
    not_less a b h = grind arith

-- the same of what is ahead under another name
pub breaks_off_seen : {R : Type 0} (old new : Stream R) (e e' : RunState) (ahead : List ℕ) (start n done bytes : ℕ) → ahead ≡ old.ahead → start ≤ done → done < bytes → bytes ≤ length old.ahead → AreWholeLines (take bytes old.ahead) → AreWholeLines (take start ahead) →
    HasNoNewline (drop start (take done ahead)) → HasNoNewline (take n (take (bytes - start) (drop start ahead))) → (n ≡ length (take (bytes - start) (drop start ahead))) ⊎ (slice_get (take (bytes - start) (drop start ahead)) n ≡ Some 10) →
    new ≡ record old { ahead = drop (start + n + 1) old.ahead } → e' ≡ line_brought e (take n (drop start ahead)) → BreaksOffBy old new e e' done bytes
breaks_off_seen {R} old new e e' ahead start n done bytes same before less within whole first rest clear ends taken brought =
    let P : List ℕ → Type 0 = λ w. AreWholeLines (take start w) → HasNoNewline (drop start (take done w)) → HasNoNewline (take n (take (bytes - start) (drop start w))) →
    (n ≡ length (take (bytes - start) (drop start w))) ⊎ (slice_get (take (bytes - start) (drop start w)) n ≡ Some 10) → e' ≡ line_brought e (take n (drop start w)) → BreaksOffBy old new e e' done bytes in
    subst P (sym same) (λ first rest clear ends brought. breaks_off old new e e' start n done bytes before less within whole first rest clear ends taken brought) first rest clear ends brought

pub brought_is : (a : Inside) (e : RunState) (pattern : SpaceView) (k : ℕ) (line : List ℕ) → run_state_of a ≡ e → pattern.bytes ≡ line → k ≡ length a.script.commands → run_state_of (record a { pattern = pattern; next_step = p.Do k }) ≡ line_brought e line
brought_is a e pattern k line seen bytes all =
    rw (← seen) (ap₂ (λ (b : List ℕ) (k : ℕ). record (run_state_of a) { state = record (run_state_of a).state { pattern = b; tasks = do_at k ∷ [] } }) bytes all)

-- the same where the block was found under other names
module _ {R : Type 0} (remaining : R → Option (List ℕ)) (from to : Stream R) (ls : List (List ℕ)) (e e₁ e' : RunState) (files : ℕ → List ℕ) (b : IdleLines) (ahead : List ℕ) where
  pub passes_seen : (old new : SinkView) → lines_left remaining from ≡ Some ls → e₁ ≡ e → ahead ≡ from.ahead → PassesLinesOver e ahead b → WithinLimits e.limits (at_lines e ls) → e.state.tasks ≡ begin ∷ [] → e.state.pattern ≡ [] →
      to ≡ record from { ahead = drop b.bytes from.ahead } → e' ≡ counted_block e₁ b → WereSent old new (cond e₁.script.quiet [] (to_sink 0 (take b.bytes ahead))) → StepsPassing remaining from to ls e.limits (run_setting e files) (at_lines e ls) e' old new (Ok tt)
  passes_seen old new known same is h fits begins empty taken counted sent =
      passes remaining from to ls e e' files b old new known (subst (λ (w : List ℕ). PassesLinesOver e w b) is h) fits begins empty taken (counted ∙ ap (λ (e : RunState). counted_block e b) same)
      (subst (λ (e : RunState). WereSent old new (cond e.script.quiet [] (to_sink 0 (take b.bytes from.ahead)))) same (subst (λ (w : List ℕ). WereSent old new (cond e₁.script.quiet [] (to_sink 0 (take b.bytes w)))) is sent))

  pub breaks_seen : (cut : CutShort) (old new : SinkView) → lines_left remaining from ≡ Some ls → e₁ ≡ e → ahead ≡ from.ahead → PassesLinesOver e ahead b → WithinLimits e.limits (at_lines e ls) → e.state.tasks ≡ begin ∷ [] → e.state.pattern ≡ [] →
      BreaksOffBy from to e₁ e' cut.done b.bytes → PutsLines old new e₁.script.quiet (take b.bytes ahead) (Err cut) → StepsPassing remaining from to ls e.limits (run_setting e files) (at_lines e ls) e' old new (Err cut.end)
  breaks_seen cut old new known same is h fits begins empty off wrote =
      let x : BreaksOffBy from to e e' cut.done b.bytes = subst (λ (e : RunState). BreaksOffBy from to e e' cut.done b.bytes) same off in
      let loud : e.script.quiet ≡ false = subst (λ (e : RunState). e.script.quiet ≡ false) same wrote.0 in
      let over : PassesLinesOver e from.ahead b = subst (λ (w : List ℕ). PassesLinesOver e w b) is h in
      let less : cut.done < b.bytes = let low = wrote.1.0 in omega (arith, low, length-take b.bytes ahead) in
      breaks remaining from to ls e e' files b cut.done old new cut.end known over fits begins empty x.0 x.1 less loud (subst (λ (w : List ℕ). WereSent old new (to_sink 0 (take cut.done (take b.bytes w)))) is wrote.1.2) wrote.1.1

-- a sink that took no more is no input that failed
no_input : (end : Ended) → named_sink end ≡ Some 0 → (r : Result Unit Ended) → r ≡ Err end → r ≡ Err InputBroken → ⊥
no_input end names r at is = let same : end ≡ InputBroken = cc in let wrong : named_sink InputBroken ≡ Some 0 = sym (ap named_sink same) ∙ names in cc

pub reads_broken : {R : Type 0} (remaining : R → Option (List ℕ)) (failures : R → ℕ) (reference : R → List GName) (from to : Stream R) (e e' : RunState) (done bytes : ℕ) (end : Ended) → BreaksOffBy from to e e' done bytes → named_sink end ≡ Some 0 → ReadsLines {T = Unit {0}} remaining failures reference from to (Err end)
reads_broken {R} remaining failures reference from to e e' done bytes end off names =
    let x = off.0 in
    let size = ap length x.are in
    reads_ahead remaining failures reference from to x.rest (Err end) x.taken (omega (arith, size, length-append (take x.start from.ahead) (x.line ++ newline ∷ x.rest), length-append x.line (newline ∷ x.rest))) (no_input end names (Err end) refl)

-- a block was counted
pub counted_falls : (e e₁ e' : RunState) (b : IdleLines) → e' ≡ counted_block e₁ b → e₁ ≡ e → weight e' ≤ weight e
counted_falls e e₁ e' b is same = rw (is, same) (omega arith)

pub counted_same : (e e₁ e' : RunState) (b : IdleLines) → e' ≡ counted_block e₁ b → e₁ ≡ e → SameRun e e'
counted_same e e₁ e' b is same = rw (is, same) (record { script = refl; same_limits = refl })

pub brought_same : (e e₁ e' : RunState) (line : List ℕ) → e' ≡ line_brought e₁ line → e₁ ≡ e → SameRun e e'
brought_same e e₁ e' line is same = rw (is, same) (record { script = refl; same_limits = refl })

-- The places at which a line is cut out of what is ahead, which is known by another name.
pub done_taken : (ahead all : List ℕ) (done bytes : ℕ) → ahead ≡ all → done < bytes → bytes ≤ length all → done ≡ length (take done ahead)
done_taken ahead all done bytes same less within =
    let size : length ahead ≡ length all = ap (λ (w : List ℕ). length w) same in
    sym (length-take-le done ahead (omega arith))

pub start_low : (ahead : List ℕ) (start done bytes : ℕ) → start ≤ length (take done ahead) → done < bytes → start ≤ bytes
start_low ahead start done bytes low less = let before = start_before ahead start done low in omega arith

le_less : {a c : ℕ} (b : ℕ) → a ≤ b → b < c → a < c
le_less b low less = omega arith

within_seen : (ahead all : List ℕ) (n : ℕ) → ahead ≡ all → n ≤ length all → n ≤ length ahead
within_seen ahead all n same within = let size : length ahead ≡ length all = ap (λ (w : List ℕ). length w) same in omega arith

-- the line that is cut out of the first bytes of what is ahead
pub line_inside : (ahead all : List ℕ) (start done bytes n : ℕ) → ahead ≡ all → start ≤ length (take done ahead) → done < bytes → bytes ≤ length all → AreWholeLines (take bytes all) → HasNoNewline (take n (take (bytes - start) (drop start ahead))) →
    (n ≡ length (take (bytes - start) (drop start ahead))) ⊎ (slice_get (take (bytes - start) (drop start ahead)) n ≡ Some 10) → (start + n < bytes) × (get_or ahead (start + n) 0 ≡ 10)
line_inside ahead all start done bytes n same low less within whole =
    newline_there ahead start bytes n (le_less done (start_before ahead start done low) less) (within_seen ahead all bytes same within) (subst (λ (w : List ℕ). AreWholeLines (take bytes w)) (sym same) whole)

pub fits_within : (a b : ℕ) → a < b → Fits w64 b → Fits w64 a × Fits w64 (a + 1)
fits_within a b less fits = (Fits-le (omega arith) fits, Fits-le (omega arith) fits)

pub no_longer : (ahead : List ℕ) (start n bytes space limit : ℕ) → start + n < bytes → bytes ≤ space → limit ≡ space → limit < length (take ((start + n) - start) (drop start ahead)) → ⊥
no_longer ahead start n bytes space limit less short is long = omega (arith, length-take ((start + n) - start) (drop start ahead))

pub less_within : {a c : ℕ} (b : ℕ) → a < b → b ≤ c → a + 1 ≤ c
less_within b less within = omega arith

pub less_seen : (ahead all : List ℕ) (a b : ℕ) → ahead ≡ all → a < b → b ≤ length all → a < length ahead
less_seen ahead all a b same less within = let size : length ahead ≡ length all = ap (λ (w : List ℕ). length w) same in omega arith

pub add_less : (a b : ℕ) → (a + b) - a ≡ b
add_less a b = omega arith
