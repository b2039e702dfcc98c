-- What a metered call of the machine says of the engine.
use Rattle.std.proofs.Common.{◌≡◌, ℕ, suc, zero, ◌+◌, ◌<◌, ◌≤◌, min, List, [], ◌∷◌, length, get_or, Option, Some, None, Result, Ok, Err, refl, subst, sym, ap, ◌∙◌, arith}
use Rattle.std.specs.Prelude.{IfSome, IsNone, OnOk}
use Rattle.sedscript.specs.Program.{Program}
use Rattle.sedacts.specs.State.{LimitsView}
use Rattle.std.specs.List.{All}
use Rattle.sedacts.specs.Ends.{bytes_of_sink, FillsSink, GainedWithin}
use Rattle.sedacts.specs.DevicesAfter.{SinksAtEnd}
use Rattle.sedacts.specs.Calls.{Delivers, FailedSink}
use Rattle.sedacts.specs.Meters.{SinksFrame, FullSink, InLimit, Meter, WereSent, SinkView, counted_bytes}
use Rattle.sedacts.specs.Run.{Cycles, CameToEnd, InputLeft, RunState, SameRun, Sends, at_lines, as_moves_answer, run_setting}
use Rattle.sedacts.specs.declared.ends.Ended.{Ended}
use Rattle.sedacts.specs.declared.ends.Ended.TheVariants.{OutputBroken, OutputFull}
use Rattle.sedacts.specs.declared.ends.Progress.{Progress}
use Rattle.sedacts.specs.declared.ends.Progress.TheVariants as progress

within_limit : (n : ℕ) (xs : List ℕ) (k : ℕ) → All (λ m. m ≤ n) xs → get_or xs k 0 ≤ n
within_limit n [] k h = omega arith
within_limit n (x ∷ xs) zero h = h 0 0 (omega arith)
within_limit n (x ∷ xs) (suc k) h = within_limit n xs k (λ j d lt. h (suc j) d (omega (arith, lt)))

-- sinks with these contents, failures and counts
abbrev pub tally_of : (ℕ → Option (List ℕ)) → (ℕ → ℕ) → Option ℕ → List ℕ → SinksFrame → SinkView
tally_of contents failures most sent frame = record { contents = contents; failures = failures; sent = counted_bytes most sent; frame = frame }

module _ (sent sent' : List ℕ) (old new : ℕ → Option (List ℕ)) (f f' : ℕ → ℕ) (a a' : SinksFrame) (out : List (ℕ × ℕ)) where
  counts_on : (most : Option ℕ) → WereSent (tally_of old f most sent a) (tally_of new f' most sent' a') out → IfSome most (λ n. (k : ℕ) → get_or sent' k 0 ≡ get_or sent k 0 + length (bytes_of_sink k out))
  counts_on None h = tt
  counts_on (Some n) h = h.counts

  stays_within : (most : Option ℕ) → InLimit most sent' → WereSent (tally_of old f most sent a) (tally_of new f' most sent' a') out → IfSome most (λ n. (k : ℕ) → get_or sent k 0 + length (bytes_of_sink k out) ≤ n)
  stays_within None within h = tt
  stays_within (Some n) within h = λ k. rw (← h.counts k) (within_limit n sent' k within)

  fills : (most : Option ℕ) (r : Result Unit Ended) → a'.most ≡ most → FullSink (tally_of new f' most sent' a') r → WereSent (tally_of old f most sent a) (tally_of new f' most sent' a') out → FillsSink most (λ k. get_or sent k 0) out r
  fills most (Ok u) same full h = tt
  fills None (Err (OutputFull k)) same (n, is, shown) h = cc
  fills (Some m) (Err (OutputFull k)) same (n, is, shown) h = let counts = h.counts k in sym same ∙ is ∙ sym shown ∙ ap Some counts
  fills most (Err other) same full h = tt

-- what a metered call says of the machine's sinks at its end it says of the engine's
pub sinks_at_end : {S O : Type 0} (tally : S → SinkView) (count : S → ℕ) (s s' : S) (failures : O → ℕ → ℕ) (before after now : O) (most limit : Option ℕ) (r : Result Unit Ended) →
    now ≡ after → Delivers tally count s s' r → FailedSink (failures before) (failures after) r → (tally s').frame.most ≡ most → most ≡ limit → SinksAtEnd limit (failures before) (failures now) r
sinks_at_end tally count s s' failures before after now most limit r is out failed frame same =
    at_end r (rw (← is) at failed) out.full
  where
    at_end : (r : Result Unit Ended) → FailedSink (failures before) (failures now) r → FullSink (tally s') r → SinksAtEnd limit (failures before) (failures now) r
    at_end (Ok u) failed full = failed
    at_end (Err (OutputBroken k)) failed full = failed
    at_end (Err (OutputFull k)) failed (n, is, shown) = (λ none. let never : Some n ≡ None = sym is ∙ frame ∙ same ∙ none in cc, failed)
    at_end (Err other) failed full = (tt, failed)

-- what the machine's sinks have gained by the meter is what the engine's have
pub sends : (e e' : RunState) (m m' : Meter) (old new : ℕ → Option (List ℕ)) (f f' : ℕ → ℕ) (a a' : SinksFrame) (r : Result Unit Ended) (out : List (ℕ × ℕ)) → m.most ≡ e.limits.output → m'.most ≡ m.most → a'.most ≡ m'.most →
    m.sent ≡ e.sent → m'.sent ≡ e'.sent → InLimit m'.most m'.sent → FullSink (tally_of new f' m'.most m'.sent a') r → WereSent (tally_of old f m.most m.sent a) (tally_of new f' m'.most m'.sent a') out → Sends e e' old new r out
sends e e' m m' old new f f' a a' r out limit same frame before now within full h =
    let W : Option ℕ → Type 0 = λ o. InLimit o m'.sent in
    let F : Option ℕ → Type 0 = λ o. FullSink (tally_of new f' o m'.sent a') r in
    let S : Option ℕ → Type 0 = λ o. WereSent (tally_of old f m.most m.sent a) (tally_of new f' o m'.sent a') out in
    let G : Option ℕ → List ℕ → Type 0 = λ o sent. GainedWithin o (λ k. get_or sent k 0) old new r out in
    let C : Option ℕ → List ℕ → List ℕ → Type 0 = λ o sent sent'. IfSome o (λ n. (k : ℕ) → get_or sent' k 0 ≡ get_or sent k 0 + length (bytes_of_sink k out)) in
    let within' = subst W same within in
    let full' = subst F same full in
    let h' = subst S same h in
    let gains : G m.most m.sent = record {
      gained = h.gained;
      within = stays_within m.sent m'.sent old new f f' a a' out m.most within' h';
      full = fills m.sent m'.sent old new f f' a a' out m.most r (frame ∙ same) full' h';
    } in
    let counts : C m.most m.sent m'.sent = counts_on m.sent m'.sent old new f f' a a' out m.most h' in
    record {
      gains = subst (λ o. G o e.sent) limit (subst (λ sent. G m.most sent) before gains);
      counts = subst (λ o. C o e.sent e'.sent) limit (subst (λ sent. C m.most sent e'.sent) before (subst (λ sent. C m.most m.sent sent) now counts));
    }

-- A call of the machine m by the meter, which became m' and led to the machine m', is one of the engine that is seen as e.
module _ {O : Type 0} (contents : O → ℕ → Option (List ℕ)) (m m' : RunState) (meter meter' : Meter) (ended ended' : Option Ended) (e : RunState) (before after now : O) (f f' : ℕ → ℕ) (a a' : SinksFrame) (files : ℕ → List ℕ) (ls : List (List ℕ)) (old new : InputLeft)
    (seen : record m { sent = meter.sent; ended = ended } ≡ e) (limit : meter.most ≡ m.limits.output) (is : now ≡ after) (same : meter'.most ≡ meter.most) (frame : a'.most ≡ meter'.most) (within : InLimit meter'.most meter'.sent) where
  sends_all : (r : Result Unit Ended) → FullSink (tally_of (contents after) f' meter'.most meter'.sent a') r → (out : List (ℕ × ℕ)) →
      WereSent (tally_of (contents before) f meter.most meter.sent a) (tally_of (contents after) f' meter'.most meter'.sent a') out →
      Sends (record m { sent = meter.sent; ended = ended }) (record m' { sent = meter'.sent; ended = ended' }) (contents before) (contents now) r out
  sends_all r full out h =
      rw is (sends (record m { sent = meter.sent; ended = ended }) (record m' { sent = meter'.sent; ended = ended' }) meter meter' (contents before) (contents after) f f' a a' r out limit same frame refl refl within full h)

  pub cycles_metered : (left : Option (List (List ℕ))) (r : Progress) → FullSink (tally_of (contents after) f' meter'.most meter'.sent a') (as_moves_answer r) →
      (out : List (ℕ × ℕ)) × WereSent (tally_of (contents before) f meter.most meter.sent a) (tally_of (contents after) f' meter'.most meter'.sent a') out × Cycles m.limits (run_setting m files) (at_lines m ls) out old new m' left r →
      (out : List (ℕ × ℕ)) × Sends e (record m' { sent = meter'.sent; ended = ended' }) (contents before) (contents now) (as_moves_answer r) out
      × Cycles e.limits (run_setting e files) (at_lines e ls) out old new (record m' { sent = meter'.sent; ended = ended' }) left r
  cycles_metered left r full (out, sent, h) =
      let Q : RunState → Type 0 = λ e. Sends e (record m' { sent = meter'.sent; ended = ended' }) (contents before) (contents now) (as_moves_answer r) out × Cycles e.limits (run_setting e files) (at_lines e ls) out old new (record m' { sent = meter'.sent; ended = ended' }) left r in
      let both = subst Q seen (sends_all (as_moves_answer r) full out sent, cycles_of left r h) in
      (out, both.0, both.1)
    where
      cycles_of : (left : Option (List (List ℕ))) (r : Progress) → Cycles m.limits (run_setting m files) (at_lines m ls) out old new m' left r →
          Cycles m.limits (run_setting m files) (at_lines m ls) out old new (record m' { sent = meter'.sent; ended = ended' }) left r
      cycles_of left progress.More h = h
      cycles_of left (progress.Ended end) h = h

  pub ending_metered : (end : Ended) → FullSink (tally_of (contents after) f' meter'.most meter'.sent a') (Err end) →
      (out : List (ℕ × ℕ)) × WereSent (tally_of (contents before) f meter.most meter.sent a) (tally_of (contents after) f' meter'.most meter'.sent a') out × CameToEnd m.limits (run_setting m files) (at_lines m ls) out old new m'.state end →
      (out : List (ℕ × ℕ)) × Sends e (record m' { sent = meter'.sent; ended = ended' }) (contents before) (contents now) (Err end) out × CameToEnd e.limits (run_setting e files) (at_lines e ls) out old new m'.state end
  ending_metered end full (out, sent, h) =
      let Q : RunState → Type 0 = λ e. Sends e (record m' { sent = meter'.sent; ended = ended' }) (contents before) (contents now) (Err end) out × CameToEnd e.limits (run_setting e files) (at_lines e ls) out old new m'.state end in
      let both = subst Q seen (sends_all (Err end) full out sent, h) in
      (out, both.0, both.1)

-- the sinks are enough for the machine's
pub sink_counts : (m e : RunState) (sent now : List ℕ) (ended : Option Ended) (n : ℕ) → record m { sent = sent; ended = ended } ≡ e → length now ≡ length m.script.wfiles + 1 → length e.script.wfiles < n → length m.script.wfiles < min (length now) n
sink_counts m e sent now ended n seen all less =
    let same : length m.script.wfiles ≡ length e.script.wfiles = ap (λ (e : RunState). length e.script.wfiles) seen in
    grind (arith, all, less, same)

-- a meter that keeps its limit and its number of counts
pub meter_fits : (m m' : RunState) (meter meter' : Meter) → SameRun m m' → meter'.most ≡ meter.most → length meter'.sent ≡ length meter.sent → (meter.most ≡ m.limits.output) × (length meter.sent ≡ length m.script.wfiles + 1) →
    (meter'.most ≡ m'.limits.output) × (length meter'.sent ≡ length m'.script.wfiles + 1)
meter_fits m m' meter meter' same most counts (limit, all) =
    (most ∙ limit ∙ ap (λ (l : LimitsView). l.output) (sym same.same_limits), counts ∙ all ∙ ap (λ (p : Program). length p.wfiles + 1) (sym same.script))

pub same_metered : (m m' e : RunState) (sent sent' : List ℕ) (ended ended' : Option Ended) → record m { sent = sent; ended = ended } ≡ e → SameRun m m' → SameRun e (record m' { sent = sent'; ended = ended' })
same_metered m m' e sent sent' ended ended' seen same =
    subst (λ (e : RunState). SameRun e (record m' { sent = sent'; ended = ended' })) seen (record { script = same.script; same_limits = same.same_limits })

-- where a next cycle is due, what holds where the run goes on
pub sound_more : {A : Type 0} (r : Progress) → OnOk (as_moves_answer r) A → r ≡ progress.More → A
sound_more progress.More h is = h
sound_more (progress.Ended end) h is = cc

-- an end that has come, and one that has not
pub not_none : {A : Type 0} {x : A} (o : Option A) → o ≡ Some x → IsNone o → ⊥
not_none None is h = cc
not_none (Some y) is h = cc

pub never_some : {A : Type 0} (P : A → Type 0) (o o' : Option A) → o ≡ o' → ((x : A) → o ≡ Some x → ⊥) → IfSome o' P
never_some P o None same never = tt
never_some P o (Some x) same never = absurd (never x same)
