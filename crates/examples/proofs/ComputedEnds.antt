-- Ends of runs within limits as a computation, so that examples of them can be computed.
use Rattle.std.proofs.Common.{◌≡◌, ℕ, zero, suc, ◌≤◌, Bool, false, true, ◌&&◌, List, [], ◌∷◌, ◌++◌, length, take, Option, Some, None, refl, sym, ap, subst, ◌∙◌, arith}
use Rattle.std.specs.Prelude.{◌<◌, ◌≢◌, eqb, leb, ltb, not, slice_get}
use Rattle.std.proofs.lemmas.Bool.{leb-true, ltb-true, eqb-true}
use Rattle.sedre.specs.declared.types.Kind.{Kind}
use Rattle.sedre.specs.declared.types.Kind.TheVariants.{Basic}
use Rattle.sedscript.specs.Program.{Program}
use Rattle.examples.proofs.ComputedScript.{Script}
use Rattle.sedspace.specs.Lines.{split_lines}
use Rattle.sedengine.specs.State.{LimitsView, MachineState, Task, Move, Setting, setting_of}
use Rattle.sedengine.specs.Move.{next_move, after, start, to_sink}
use Rattle.sedengine.specs.Ends.{WithinLimits, StaysWithin, StopsAt, IsCause, RanWhole, BrokenOff, named_sink, reads}
use Rattle.sedengine.specs.Types.{Ended, Done, PatternFull, HoldFull, QueueFull, TurnsSpent, NoPrevious, InputBroken}
use Rattle.examples.proofs.ComputedRun.{course, course_so, stays, after_first, written_first}
use Rattle.sedengine.specs.Steps.{WholeOrBrokenOff}

pub both : (a b : Bool) → (a && b) ≡ true → (a ≡ true) × (b ≡ true)
both true b e = (refl, e)
both false b e = absurd cc

-- whether a state is within the limits
abbrev pub fits : LimitsView → MachineState → Bool
fits l s =
    leb (length s.pattern) l.space && (leb (length s.hold) l.space && (leb (length s.queue) l.queue && leb s.turns l.turns))

fits_so : (l : LimitsView) (s : MachineState) → fits l s ≡ true → WithinLimits l s
fits_so l s e =
    let one = both _ _ e in
    let two = both _ _ one.1 in
    let three = both _ _ two.1 in
    record {
      pattern = leb-true _ _ one.0;
      hold = leb-true _ _ two.0;
      queue = leb-true _ _ three.0;
      turns = leb-true _ _ three.1;
    }

abbrev pub next_fits : (MachineState → Bool) → Option Move → Bool
next_fits rest None = true
next_fits rest (Some m) = rest m.next

-- whether each state up to the one after so many moves is
unfoldable pub all_fit : LimitsView → Setting → ℕ → MachineState → Bool
all_fit l g zero s = fits l s
all_fit l g (suc n) s = fits l s && next_fits (all_fit l g n) (next_move g s)

module _ (l : LimitsView) (g : Setting) where
  later_fit : (n : ℕ) (s : MachineState) (o : Option Move) → next_move g s ≡ o → fits l s ≡ true → next_fits (all_fit l g n) o ≡ true →
      ((next : MachineState) → all_fit l g n next ≡ true → (k : ℕ) → k ≤ n → WithinLimits l (after g next k)) → (k : ℕ) → k ≤ suc n → WithinLimits l (after g s k)
  unfolding after
  later_fit n s o e f h on zero below = fits_so l s f
  later_fit n s None e f h on (suc k) below = subst (WithinLimits l) (sym (stays g s (suc k) e)) (fits_so l s f)
  later_fit n s (Some m) e f h on (suc k) below =
      subst (WithinLimits l) (sym (after_first g s m k e)) (on m.next h k (omega arith))

  each_fits : (n : ℕ) (s : MachineState) → all_fit l g n s ≡ true → (k : ℕ) → k ≤ n → WithinLimits l (after g s k)
  unfolding all_fit after
  each_fits zero s e k below = (let none : k ≡ 0 = omega (arith, below) in rw none (fits_so l s e))
  each_fits (suc n) s e k below =
      let two = both _ _ e in later_fit n s (next_move g s) refl two.0 two.1 (each_fits n) k below

  pub within_so : (n : ℕ) (s : MachineState) → all_fit l g n s ≡ true → StaysWithin l g s n
  unfolding StaysWithin
  within_so n s e = each_fits n s e

-- whether there is a move that takes no turn too many, and leads to line n and to a state of which this is so
abbrev pub leads_to : LimitsView → ℕ → (MachineState → Bool) → Option Move → Bool
leads_to l n test None = false
leads_to l n test (Some m) = eqb n m.next.number && (leb m.next.turns l.turns && test m.next)

leads_so : (l : LimitsView) (n limit : ℕ) (size : MachineState → ℕ) (o : Option Move) → leads_to l n (λ now. ltb limit (size now)) o ≡ true →
    (m : Move) × (o ≡ Some m) × (n ≡ m.next.number) × (m.next.turns ≤ l.turns) × (limit < size m.next)
leads_so l n limit size None e = absurd cc
leads_so l n limit size (Some m) e =
    let one = both _ _ e in
    let two = both _ _ one.1 in
    (m, refl, eqb-true _ _ one.0, leb-true _ _ two.0, ltb-true _ _ two.1)

-- whether a move, where there is one, takes a turn too many
abbrev pub none_allowed : LimitsView → Option Move → Bool
none_allowed l None = true
none_allowed l (Some m) = ltb l.turns m.next.turns

none_allowed_so : (l : LimitsView) (o : Option Move) → none_allowed l o ≡ true → (m : Move) → o ≡ Some m → l.turns < m.next.turns
none_allowed_so l None e m is = absurd cc
none_allowed_so l (Some x) e m is = let same : x ≡ m = cc in subst (λ (y : Move). l.turns < y.next.turns) same (ltb-true _ _ e)

abbrev pub no_tasks : List Task → Bool
no_tasks [] = true
no_tasks (task ∷ rest) = false

abbrev pub no_move : Option Move → Bool
no_move None = true
no_move (Some m) = false

no_tasks_so : (ts : List Task) → no_tasks ts ≡ true → ts ≡ []
no_tasks_so [] e = refl
no_tasks_so (t ∷ ts) e = absurd cc

some_tasks_so : (ts : List Task) → not (no_tasks ts) ≡ true → ts ≢ []
some_tasks_so [] e none = absurd cc
some_tasks_so (t ∷ ts) e none = absurd cc

no_move_so : (o : Option Move) → no_move o ≡ true → o ≡ None
no_move_so None e = refl
no_move_so (Some m) e = absurd cc

-- whether an end that names no sink has its cause at this state
abbrev pub is_cause : LimitsView → Setting → MachineState → Ended → Bool
is_cause l g s Done = no_tasks s.tasks
is_cause l g s (PatternFull n) = leads_to l n (λ now. ltb l.space (length now.pattern)) (next_move g s)
is_cause l g s (HoldFull n) = leads_to l n (λ now. ltb l.space (length now.hold)) (next_move g s)
is_cause l g s (QueueFull n) = leads_to l n (λ now. ltb l.queue (length now.queue)) (next_move g s)
is_cause l g s TurnsSpent = eqb s.turns l.turns && (not (no_tasks s.tasks) && none_allowed l (next_move g s))
is_cause l g s (NoPrevious n) =
    eqb n s.number && (ltb s.turns l.turns && (not (no_tasks s.tasks) && no_move (next_move g s)))
is_cause l g s InputBroken = reads g s.tasks
is_cause l g s other = false

cause_so : (l : LimitsView) (g : Setting) (s : MachineState) (end : Ended) → is_cause l g s end ≡ true → StopsAt l g s end
cause_so l g s Done e = no_tasks_so s.tasks e
cause_so l g s (PatternFull n) e = leads_so l n l.space (λ now. length now.pattern) (next_move g s) e
cause_so l g s (HoldFull n) e = leads_so l n l.space (λ now. length now.hold) (next_move g s) e
cause_so l g s (QueueFull n) e = leads_so l n l.queue (λ now. length now.queue) (next_move g s) e
cause_so l g s TurnsSpent e =
    let one = both _ _ e in
    let two = both _ _ one.1 in
    (eqb-true _ _ one.0, some_tasks_so s.tasks two.0, none_allowed_so l (next_move g s) two.1)
cause_so l g s (NoPrevious n) e =
    let one = both _ _ e in
    let two = both _ _ one.1 in
    let three = both _ _ two.1 in
    (eqb-true _ _ one.0, ltb-true _ _ two.0, some_tasks_so s.tasks three.0, no_move_so (next_move g s) three.1)
cause_so l g s InputBroken e = e
cause_so l g s other e = absurd cc

-- a run within limits comes to an end, with this output
pub record Stops (l : LimitsView) (g : Setting) (s : MachineState) (end : Ended) (out : List (ℕ × ℕ)) : Type 0 where
  pub moves : ℕ
  pub cause : IsCause l g s out end moves

pub whole_or_cut : (l : LimitsView) (g : Setting) (s : MachineState) (end : Ended) (out : List (ℕ × ℕ)) (t : ℕ) (o : Option ℕ) → o ≡ None →
    RanWhole l g s out end t → WholeOrBrokenOff l g s out end t o
whole_or_cut l g s end out t None e h = h
whole_or_cut l g s end out t (Some k) e h = absurd cc

cut_there : (l : LimitsView) (g : Setting) (s : MachineState) (end : Ended) (out : List (ℕ × ℕ)) (t k : ℕ) (o : Option ℕ) → o ≡ Some k →
    BrokenOff l g s out k t → WholeOrBrokenOff l g s out end t o
cut_there l g s end out t k None e h = absurd cc
cut_there l g s end out t k (Some j) e h = subst (λ (o : Option ℕ). WholeOrBrokenOff l g s out end t o) (sym e) h

-- an end is whole where its moves, computed, say so
pub whole_after : {l : LimitsView} {g : Setting} {s : MachineState} {end : Ended} {out : List (ℕ × ℕ)} (n : ℕ) →
    (course g n s).writes ≡ out → is_cause l g (course g n s).last end ≡ true → all_fit l g n s ≡ true → RanWhole l g s out end n
whole_after {l = l} {g = g} {s = s} {end = end} n w c f = record {
  within = within_so l g n s f;
  wrote = (course_so g n s).0 ∙ w;
  cause = subst (λ (x : MachineState). StopsAt l g x end) (sym (course_so g n s).1) (cause_so l g (course g n s).last end c);
}

-- one move more before such moves
within_first : (l : LimitsView) (g : Setting) (s : MachineState) (m : Move) (t : ℕ) → next_move g s ≡ Some m → WithinLimits l s →
    ((k : ℕ) → k ≤ t → WithinLimits l (after g m.next k)) → (k : ℕ) → k ≤ suc t → WithinLimits l (after g s k)
unfolding after
within_first l g s m t e fits on zero below = fits
within_first l g s m t e fits on (suc k) below = subst (WithinLimits l) (sym (after_first g s m k e)) (on k (omega arith))

pub whole_first : {l : LimitsView} {g : Setting} {s : MachineState} {m : Move} {end : Ended} {rest : List (ℕ × ℕ)} {t : ℕ} → next_move g s ≡ Some m →
    WithinLimits l s → RanWhole l g m.next rest end t → RanWhole l g s (m.writes ++ rest) end (suc t)
unfolding StaysWithin
whole_first {l = l} {g = g} {s = s} {m = m} {end = end} {t = t} e fits h = record {
  within = within_first l g s m t e fits h.within;
  wrote = written_first g s m t e ∙ ap (λ (bytes : List (ℕ × ℕ)). m.writes ++ bytes) h.wrote;
  cause = subst (λ (x : MachineState). StopsAt l g x end) (sym (after_first g s m t e)) h.cause;
}

abbrev pub stops_whole : {l : LimitsView} {g : Setting} {s : MachineState} {end : Ended} {out : List (ℕ × ℕ)} {t : ℕ} → RanWhole l g s out end t →
    named_sink end ≡ None → Stops l g s end out
stops_whole {l = l} {g = g} {s = s} {end = end} {out = out} {t = t} h sink =
    record { moves = t; cause = whole_or_cut l g s end out t (named_sink end) sink h }

abbrev pub stops_after : {l : LimitsView} {g : Setting} {s : MachineState} {end : Ended} {out : List (ℕ × ℕ)} (n : ℕ) →
    (course g n s).writes ≡ out → is_cause l g (course g n s).last end ≡ true → all_fit l g n s ≡ true →
    named_sink end ≡ None → Stops l g s end out
stops_after n w c f sink = stops_whole (whole_after n w c f) sink

-- The same where a sink breaks or is full: in the move after so many, of whose bytes the next one is for this sink.
pub stops_within : {l : LimitsView} {g : Setting} {s : MachineState} {end : Ended} {out : List (ℕ × ℕ)} (n k byte : ℕ) →
    leb (length (course g n s).writes) (length out) ≡ true →
    slice_get (course g (suc n) s).writes (length out) ≡ Some (k, byte) →
    take (length out) (course g (suc n) s).writes ≡ out → all_fit l g (suc n) s ≡ true →
    named_sink end ≡ Some k → Stops l g s end out
stops_within {l = l} {g = g} {s = s} {end = end} {out = out} n k byte past due w f sink = record {
  moves = n;
  cause = cut_there l g s end out n k (named_sink end) sink (record {
    within = within_so l g (suc n) s f;
    b = length out;
    byte = byte;
    past = subst (λ (bytes : List (ℕ × ℕ)). length bytes ≤ length out) (sym (course_so g n s).0) (leb-true _ _ past);
    due = subst (λ (bytes : List (ℕ × ℕ)). slice_get bytes (length out) ≡ Some (k, byte)) (sym (course_so g (suc n) s).0) due;
    wrote = subst (λ (bytes : List (ℕ × ℕ)). take (length out) bytes ≡ out) (sym (course_so g (suc n) s).0) w;
  });
}

-- The script of a text, over the lines of an input, with these files and within these limits, comes to this end when it has
-- written these bytes, each to its sink.
abbrev pub StopsBy : LimitsView → Kind → (Program → Program) → (ℕ → List ℕ) → (text input : List ℕ) → Ended →
    (out : List (ℕ × ℕ)) → Type 0
StopsBy l kind asked files text input end out =
    Script text kind (λ p. Stops l (setting_of (asked p) files) (start p.commands (split_lines input)) end out)

-- the same, of a script with basic expressions, for the standard output alone
abbrev pub EndsBy : LimitsView → (Program → Program) → (ℕ → List ℕ) → (text input : List ℕ) → Ended → (output : List ℕ) → Type 0
EndsBy l asked files text input end output = StopsBy l Basic asked files text input end (to_sink 0 output)
