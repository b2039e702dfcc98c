-- What a substitution does is a move.
use Rattle.std.proofs.Common.{◌≡◌, ℕ, zero, suc, ◌<◌, ◌≤◌, Bool, true, false, List, [], ◌∷◌, length, get_or, Option, Some, Result, Ok, Err, refl, subst, sym, ap, ◌∙◌, arith, Vec, Global}
use Rattle.std.specs.Prelude.{slice_get}
use Rattle.std.specs.Option.{option_or, option_map_or}
use Rattle.std.proofs.lemmas.Option.{same_Some}
use Rattle.sedre.specs.Tree.{WrittenExpression}
use Rattle.sedmatch.specs.SearchRoom.{FitInto, SearchRoom}
use Rattle.sedmatch.specs.Occurrences.{KeepsRoom, RoomFor}
use Rattle.sedmatch.specs.declared.occurrences.Occurrences.{Occurrences}
use Rattle.sedscript.specs.declared.substitution.Substitution.{Substitution}
use Rattle.sedspace.specs.Spaces.{SpaceView}
use Rattle.sedspace.specs.declared.errors.Full.{Full}
use Rattle.sedacts.specs.State.{Task, do_at, MachineState, Move, Setting, search_in}
use Rattle.sedacts.specs.Substitute.{Occurrence, to_replace, each_occurrence, replaced_from}
use Rattle.sedacts.specs.Select.{stands_for}
use Rattle.sedacts.specs.Move.{next_move, quietly, writing, replaces}
use Rattle.sedacts.specs.Ends.{WithinLimits}
use Rattle.sedacts.specs.Held.{SameLengths}
use Rattle.sedacts.specs.Meters.{SinkView}
use Rattle.sedacts.specs.Calls.{PutsBytes}
use Rattle.sedacts.specs.Run.{RunState, at_lines, run_setting}
use Rattle.sedacts.specs.Steps.{Leads, reaches, line_at, MakesMoves}
use Rattle.sedengine.specs.Advancing.{ReachesCommand, MakesMove}
use Rattle.sedengine.specs.SubstituteCalls.{written_by, written_of, MakesSubstitution, ReplacesIn, same_but_replaced, to_replace_in}
use Rattle.sedacts.specs.Fitting.{RoomToSeek}
use Rattle.sedengine.specs.Inside.{run_state_of, tasks_of, IsConsistent}
use Rattle.sedengine.specs.declared.machine.Machine.TheInside.{Inside}
use Rattle.sedacts.specs.declared.substitute.Findings.{Findings}
use Rattle.sedacts.specs.declared.ends.Ended.{Ended}
use Rattle.sedacts.specs.declared.ends.Ended.TheVariants.{PatternFull, NoPrevious}
use Rattle.sedacts.proofs.Moves.{moves_writing, ran_quietly, stopped_here}
use Rattle.sedmatch.proofs.RoomLemmas.{room_within}
use Rattle.sedacts.specs.SubstituteParts.{ReplacesThese}
use Rattle.sedacts.proofs.Fitting.{fits_at, sought, sought_at}
use Rattle.sedengine.proofs.Tasks.{may_hold}
use Rattle.sedengine.proofs.Tried.{matcher_at, standing}

-- the fields of the engine after a substitution with the expression e
pub replaced_is_run : (a : Inside) (pattern build : SpaceView) (scratch : SearchRoom) (seeking : Occurrences) (findings : Findings) (matchers : Vec WrittenExpression Global) (e : ℕ) (replaced : Bool) → IsConsistent a → reaches (tasks_of a.next_step) ≡ true → e < length a.script.expressions →
    pattern.limit ≡ a.pattern.limit → length pattern.bytes ≤ pattern.limit → build.limit ≡ a.build.limit → scratch ≡ a.scratch → RoomToSeek a.script.substitutions a.script.expressions a.limits.space seeking → matchers.items ≡ a.matchers.items →
    IsConsistent (record a { pattern = pattern; build = build; scratch = scratch; seeking = seeking; findings = findings; matchers = matchers; used = Some e; replaced = replaced })
replaced_is_run a pattern build scratch seeking findings matchers e replaced i at within limit fits limit' same room same' = record {
  number = i.number;
  turns = i.turns;
  pattern_limit = limit ∙ i.pattern_limit;
  pattern = let most = i.pattern_limit in omega arith;
  hold_limit = i.hold_limit;
  hold = i.hold;
  build_limit = λ some. limit' ∙ i.build_limit some;
  build_within = rw limit' i.build_within;
  copy_limit = λ some. limit' ∙ i.copy_limit some;
  queue_limit = i.queue_limit;
  queue = i.queue;
  queued = i.queued;
  empty = may_hold a.next_step pattern.bytes at;
  ranges = i.ranges;
  used = within;
  scratch_text = λ some. ap (λ (r : SearchRoom). r.text) same ∙ i.scratch_text some;
  scratch_nodes = rw (same, same') i.scratch_nodes;
  matchers = rw same' i.matchers;
  seeking = room;
  nodes = i.nodes;
  idle = i.idle;
}

-- what seeks the expression of a number
pub one_sought : (a : Inside) (e : ℕ) (m : WrittenExpression) → IsConsistent a → e < length a.script.expressions → m ≡ get_or a.matchers.items e m →
    slice_get a.script.expressions e ≡ Some m
one_sought a e m i within is =
    let es = a.script.expressions in
    let there = sought_at es a.limits.nodes a.matchers.items e i.matchers within in
    subst (λ (xs : List WrittenExpression). slice_get xs e ≡ Some m) (sought es a.limits.nodes a.matchers.items i.matchers) (matcher_at a.matchers.items e m there is)

-- there is room to seek as before after a call that began with the expression of a number
pub room_kept : (a : Inside) (e : ℕ) (m : WrittenExpression) (begun after : Occurrences) → IsConsistent a → slice_get a.script.expressions e ≡ Some m →
    ((text : ℕ) (es : List WrittenExpression) → RoomFor text es a.seeking → RoomFor text es begun) → begun.number ≡ e → KeepsRoom m begun after →
    RoomToSeek a.script.substitutions a.script.expressions a.limits.space after
room_kept a e m begun after i at room number kept some =
    kept.1 a.limits.space a.script.expressions (rw number at) (room a.limits.space a.script.expressions (i.seeking some))

-- what a call made of a space: these bytes, or nothing, for want of a substitution or of room
abbrev pub IsMade : SpaceView → SpaceView → ℕ → List ℕ → Result Bool Full → Type 0
IsMade old new limit made (Ok true) = new ≡ record old { bytes = made }
IsMade old new limit made (Ok false) = new ≡ old
IsMade old new limit made (Err f) = limit ≡ old.limit

made_in : (old new : SpaceView) (limit : ℕ) (made : List ℕ) (r : Result Bool Full) (u : Substitution) (ms : List Occurrence) → IsMade old new limit made r → ReplacesThese old.bytes u.replacement ms limit made r → ReplacesIn u ms old new r
made_in old new limit made (Ok true) u ms becomes h = (h.0, becomes ∙ ap (λ (bytes : List ℕ). record old { bytes = bytes }) h.1)
made_in old new limit made (Ok false) u ms becomes h = (h, becomes)
made_in old new limit made (Err f) u ms becomes h = (h.0, rw becomes at h.1)

-- there is a substitution
pub some_substitution : (a : Inside) (e : RunState) (k : ℕ) → run_state_of a ≡ e → k < length e.script.substitutions → 0 < length a.script.substitutions
some_substitution a e k seen h = let there = ap (λ (e : RunState). length e.script.substitutions) seen in omega arith

-- spaces that were exchanged keep their limits
pub limit_exchanged : (a : Inside) (pattern built : SpaceView) → IsConsistent a → 0 < length a.script.substitutions → pattern ≡ built → built.limit ≡ a.build.limit → pattern.limit ≡ a.pattern.limit
limit_exchanged a pattern built i some is limit = ap (λ (c : SpaceView). c.limit) is ∙ limit ∙ i.build_limit some ∙ sym i.pattern_limit

pub made_exchanged : (a : Inside) (pattern built : SpaceView) → IsConsistent a → 0 < length a.script.substitutions → pattern ≡ built → built.limit ≡ a.build.limit → pattern ≡ record a.pattern { bytes = built.bytes }
made_exchanged a pattern built i some is limit = is ∙ ap (λ (n : ℕ). record built { limit = n }) (sym (ap (λ (c : SpaceView). c.limit) is) ∙ limit_exchanged a pattern built i some is limit)

-- What is known of the fields of an engine that substitutes in what its pattern space holds, the bytes w, by the expression e.
module _ (a : Inside) (i : IsConsistent a) (w : List ℕ) (same : w ≡ a.pattern.bytes) where
  -- the room for the search
  pub fits_scratch : (e : ℕ) (m : WrittenExpression) → e < length a.script.expressions → m ≡ get_or a.matchers.items e m → FitInto (length w) (length m.nodes) a.scratch
  fits_scratch e m within is =
      let long = ap (λ (xs : List ℕ). length xs) same in
      let short = i.pattern in
      let text = i.scratch_text (omega arith) in
      (omega arith, fits_at a.scratch.nodes a.matchers.items e m (sought_at a.script.expressions a.limits.nodes a.matchers.items e i.matchers within) is i.scratch_nodes)

  pub fits_build : 0 < length a.script.substitutions → length w ≤ a.build.limit
  fits_build some =
      let long = ap (λ (xs : List ℕ). length xs) same in
      let short = i.pattern in
      let room = i.build_limit some in
      omega arith

  pub fits_seeking : 0 < length a.script.substitutions → RoomFor (length w) a.script.expressions a.seeking
  fits_seeking some =
      let long = ap (λ (xs : List ℕ). length xs) same in
      let short = i.pattern in
      room_within (length w) a.limits.space a.script.expressions a.seeking (omega arith) (i.seeking some)

  -- what was made of it
  pub made_by : (ms : List WrittenExpression) (k e : ℕ) (t : Substitution) (new : SpaceView) (limit : ℕ) (made : List ℕ) (r : Result Bool Full) → slice_get a.script.substitutions k ≡ Some t → IsMade a.pattern new limit made r →
      ReplacesThese w t.replacement (to_replace t.number t.global (each_occurrence (search_in ms e w) (length w))) limit made r →
      (u : Substitution) → slice_get a.script.substitutions k ≡ Some u → ReplacesIn u (to_replace u.number u.global (each_occurrence (search_in ms e a.pattern.bytes) (length a.pattern.bytes))) a.pattern new r
  made_by ms k e t new limit made r is becomes h u is' =
      let Q : List ℕ → Type 0 = λ w. ReplacesThese w u.replacement (to_replace u.number u.global (each_occurrence (search_in ms e w) (length w))) limit made r in
      let S : Substitution → Type 0 = λ t. ReplacesThese w t.replacement (to_replace t.number t.global (each_occurrence (search_in ms e w) (length w))) limit made r in
      made_in a.pattern new limit made r u _ becomes (subst Q same (subst S (same_Some t u (sym is ∙ is')) h))

-- a move whose pattern space has no room for what it makes
leads_full : (s : MachineState) (t : Substitution) (ms : List Occurrence) (space : ℕ) → 0 < length ms → space < length (replaced_from s.pattern t.replacement 0 ms) →
    Leads (replaces s t ms) (λ m. space < length m.next.pattern)
leads_full s t [] space some more = absurd (omega arith)
leads_full s t (m ∷ ms) space some more = (_, refl, more)

pub makes_full : (a : Inside) (r : RunState) (seen : run_state_of a ≡ r) (es : List WrittenExpression) (same : es ≡ a.script.expressions) (k e : ℕ) (files : ℕ → List ℕ) (ls : List (List ℕ)) (t : Substitution) (new : SpaceView) (now : MachineState) (f : Full) → a.pattern.limit ≡ a.limits.space →
    slice_get r.script.substitutions k ≡ Some t →
    ((t : Substitution) → slice_get a.script.substitutions k ≡ Some t → ReplacesIn t (to_replace t.number t.global (each_occurrence (search_in es e a.pattern.bytes) (length a.pattern.bytes))) a.pattern new (Err f)) →
    MakesSubstitution r.limits (replaces (record (at_lines r ls) { used = Some e }) t (to_replace_in (run_setting r files) t e r.state.pattern)) t (at_lines r ls) now (Err (PatternFull a.number))
makes_full a r seen es same k e files ls t new now f limit is h =
    let Q : RunState → Type 0 = λ r. slice_get r.script.substitutions k ≡ Some t → MakesSubstitution r.limits (replaces (record (at_lines r ls) { used = Some e }) t (to_replace_in (run_setting r files) t e r.state.pattern)) t (at_lines r ls) now (Err (PatternFull a.number)) in
    subst Q seen
    (λ is.
    let made = rw same at (h t is) in
    let more : a.limits.space < length (replaced_from a.pattern.bytes t.replacement 0 (to_replace_in (run_setting (run_state_of a) files) t e a.pattern.bytes)) = rw limit at made.1 in
    (leads_full (record (at_lines (run_state_of a) ls) { used = Some e }) t (to_replace_in (run_setting (run_state_of a) files) t e a.pattern.bytes) a.limits.space made.0 more, refl)) is

-- the expression that the substitution k stands for, if any
pub stands : (a : Inside) (r : RunState) (k : ℕ) (o : Option ℕ) (t t' : Substitution) → run_state_of a ≡ r → slice_get r.script.substitutions k ≡ Some t → slice_get a.script.substitutions k ≡ Some t' → o ≡ option_or t'.expression a.used →
    stands_for t.expression r.state.used ≡ o
stands a r k o t t' seen is is' h =
    let Q : RunState → Type 0 = λ r. slice_get r.script.substitutions k ≡ Some t → stands_for t.expression r.state.used ≡ o in
    subst Q seen (λ is. let same : t' ≡ t = same_Some t' t (sym is' ∙ is) in sym (standing t.expression a.used) ∙ ap (λ (t : Substitution). option_or t.expression a.used) (sym same) ∙ sym h) is

-- there is an element at each place
pub there_is : {A : Type 0} (xs : List A) (k : ℕ) → k < length xs → (x : A) × (slice_get xs k ≡ Some x)
there_is [] k h = absurd (omega arith)
there_is (x ∷ xs) zero h = (x, refl)
there_is (x ∷ xs) (suc k) h = there_is xs k (omega arith)

-- the line of a command that is reached
pub reached_line : (s : MachineState) (ts : List Task) → reaches ts ≡ true → line_at s ts ≡ s.number
reached_line s [] h = cc
reached_line s (do_at k ∷ rest) h = refl
reached_line s (other ∷ rest) h = cc

-- An engine within its limits, r, was led to the engine r' by a call that makes the move o of a substitution.
module _ (r r' : RunState) (ls : List (List ℕ)) (before : WithinLimits r.limits (at_lines r ls)) (same : r' ≡ same_but_replaced r r'.state) (within : length r'.state.pattern ≤ r'.limits.space) (g : Setting) (old new : SinkView) (o : Option Move) (t : Substitution) where
  there : WithinLimits r.limits (at_lines r' ls)
  there =
      let limits : r'.limits ≡ r.limits = ap (λ (r : RunState). r.limits) same in
      let hold : r'.state.hold ≡ r.state.hold = ap (λ (r : RunState). r.state.hold) same in
      let queue : r'.state.queue ≡ r.state.queue = ap (λ (r : RunState). r.state.queue) same in
      let turns : r'.state.turns ≡ r.state.turns = ap (λ (r : RunState). r.state.turns) same in
      record { pattern = rw limits at within; hold = rw hold before.hold; queue = rw queue before.queue; turns = rw turns before.turns }

  -- nothing was replaced
  pub replaced_nothing : MakesSubstitution r.limits o t (at_lines r ls) (at_lines r' ls) (Ok false) → MakesMove r.limits g o (at_lines r ls) (at_lines r' ls) old old (Ok tt)
  replaced_nothing is = λ s c first. ran_quietly r.limits g s (at_lines r' ls) old c.fits (first ∙ is) there

  -- something was, and is written by the flags `p` and `w`
  pub replaced_some : (shown : Result Unit Ended) → MakesSubstitution r.limits o t (at_lines r ls) (at_lines r' ls) (Ok true) → PutsBytes old new (written_by t r'.state.pattern) shown →
      MakesMove r.limits g o (at_lines r ls) (at_lines r' ls) old new shown
  replaced_some shown is put = λ s c first. moves_writing r.limits g s (at_lines r' ls) old new (written_by t r'.state.pattern) shown c.fits (first ∙ is) there c.lines put

  -- the end comes
  pub replaced_not : (end : Ended) → r'.state.pattern ≡ r.state.pattern → MakesSubstitution r.limits o t (at_lines r ls) (at_lines r' ls) (Err end) → MakesMove r.limits g o (at_lines r ls) (at_lines r' ls) old old (Err end)
  replaced_not end kept is = λ s c first. stops s c first end is
    where
      lengths : (s : MachineState) → ReachesCommand r.limits g s (at_lines r ls) → SameLengths s (at_lines r' ls)
      lengths s c =
          let w = c.same in
          record {
            pattern = ap (λ (x : List ℕ). length x) kept ∙ w.pattern;
            hold = ap (λ (r : RunState). length r.state.hold) same ∙ w.hold;
            queue = λ goes. ap (λ (r : RunState). length r.state.queue) same ∙ w.queue goes;
            entries = let more = w.entries in let queue = ap (λ (r : RunState). length r.state.queue) same in omega arith;
          }

      stops : (s : MachineState) (c : ReachesCommand r.limits g s (at_lines r ls)) → next_move g s ≡ o → (end : Ended) → MakesSubstitution r.limits o t (at_lines r ls) (at_lines r' ls) (Err end) → MakesMoves r.limits g s (at_lines r' ls) old old (Err end)
      stops s c first (NoPrevious n) (without, number) =
          stopped_here r.limits g s (at_lines r' ls) old (NoPrevious n) c.fits refl (number ∙ sym c.number, c.turn, c.reaches, first ∙ without) (lengths s c) c.lines
      stops s c first (PatternFull n) ((m, is, more), number) =
          stopped_here r.limits g s (at_lines r' ls) old (PatternFull n) c.fits refl (number ∙ sym c.number ∙ sym (reached_line s s.tasks c.reaches), c.turn, (m, first ∙ is, more)) (lengths s c) c.lines
      stops s c first other h = absurd h

-- what the substitution of a number writes
pub of_this : (e : RunState) (k : ℕ) (t : Substitution) → slice_get e.script.substitutions k ≡ Some t → written_of e k ≡ written_by t e.state.pattern
of_this e k t is = ap (λ o. option_map_or (λ t. written_by t e.state.pattern) o []) is

-- the same of the engine as it is seen
pub of_one : (a : Inside) (e : RunState) (k : ℕ) (t : Substitution) → run_state_of a ≡ e → slice_get a.script.substitutions k ≡ Some t → written_of e k ≡ written_by t e.state.pattern
of_one a e k t seen is = of_this e k t (ap (λ (e : RunState). slice_get e.script.substitutions k) (sym seen) ∙ is)

-- the state in which the pattern space became a text by a substitution
abbrev pub becomes : MachineState → Substitution → List ℕ → Option Move
becomes s t w = writing (written_by t w) (record s { pattern = w; replaced = true })

replaces_some : (s : MachineState) (t : Substitution) (ms : List Occurrence) → 0 < length ms → replaces s t ms ≡ becomes s t (replaced_from s.pattern t.replacement 0 ms)
replaces_some s t [] some = absurd (omega arith)
replaces_some s t (m ∷ ms) some = refl

-- a substitution that replaces something, and one that replaces nothing
pub makes_some : (a : Inside) (r : RunState) (seen : run_state_of a ≡ r) (es : List WrittenExpression) (same : es ≡ a.script.expressions) (k e : ℕ) (files : ℕ → List ℕ) (ls : List (List ℕ)) (t : Substitution) (new : SpaceView) →
    slice_get r.script.substitutions k ≡ Some t →
    ((t : Substitution) → slice_get a.script.substitutions k ≡ Some t → ReplacesIn t (to_replace t.number t.global (each_occurrence (search_in es e a.pattern.bytes) (length a.pattern.bytes))) a.pattern new (Ok true)) →
    MakesSubstitution r.limits (replaces (record (at_lines r ls) { used = Some e }) t (to_replace_in (run_setting r files) t e r.state.pattern)) t (at_lines r ls)
    (record (at_lines (run_state_of a) ls) { pattern = new.bytes; used = Some e; replaced = true }) (Ok true)
makes_some a r seen es same k e files ls t new is h =
    let now : MachineState = record (at_lines (run_state_of a) ls) { pattern = new.bytes; used = Some e; replaced = true } in
    let Q : RunState → Type 0 = λ r. slice_get r.script.substitutions k ≡ Some t → replaces (record (at_lines r ls) { used = Some e }) t (to_replace_in (run_setting r files) t e r.state.pattern) ≡ writing (written_by t now.pattern) now in
    let s : MachineState = record (at_lines (run_state_of a) ls) { used = Some e } in
    let ms = to_replace_in (run_setting (run_state_of a) files) t e a.pattern.bytes in
    subst Q seen
    (λ is.
    let made = rw same at (h t is) in
    replaces_some s t ms made.0 ∙ ap (λ (w : List ℕ). becomes s t w) (sym (ap (λ (x : SpaceView). x.bytes) made.1))) is

pub makes_none : (a : Inside) (r : RunState) (seen : run_state_of a ≡ r) (es : List WrittenExpression) (same : es ≡ a.script.expressions) (k e : ℕ) (files : ℕ → List ℕ) (ls : List (List ℕ)) (t : Substitution) (new : SpaceView) →
    slice_get r.script.substitutions k ≡ Some t →
    ((t : Substitution) → slice_get a.script.substitutions k ≡ Some t → ReplacesIn t (to_replace t.number t.global (each_occurrence (search_in es e a.pattern.bytes) (length a.pattern.bytes))) a.pattern new (Ok false)) →
    MakesSubstitution r.limits (replaces (record (at_lines r ls) { used = Some e }) t (to_replace_in (run_setting r files) t e r.state.pattern)) t (at_lines r ls)
    (record (at_lines (run_state_of a) ls) { pattern = new.bytes; used = Some e }) (Ok false)
makes_none a r seen es same k e files ls t new is h =
    let now : MachineState = record (at_lines (run_state_of a) ls) { pattern = new.bytes; used = Some e } in
    let Q : RunState → Type 0 = λ r. slice_get r.script.substitutions k ≡ Some t → replaces (record (at_lines r ls) { used = Some e }) t (to_replace_in (run_setting r files) t e r.state.pattern) ≡ quietly now in
    let s : MachineState = record (at_lines (run_state_of a) ls) { used = Some e } in
    subst Q seen
    (λ is.
    let made = rw same at (h t is) in
    ap (λ (ms : List Occurrence). replaces s t ms) made.0 ∙ ap (λ (w : List ℕ). quietly (record s { pattern = w })) (sym (ap (λ (x : SpaceView). x.bytes) made.1))) is
