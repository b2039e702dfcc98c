-- From the end of an edit to the status of the program.
use Rattle.std.proofs.Common.{◌≡◌, ◌≢◌, ◌∙◌, ◌≤◌, ◌⊎◌, inl, inr, ℕ, Bool, true, false, List, Option, Some, None, Result, Ok, Err, arith, subst, sym}
use Rattle.std.specs.Option.{ForSome}
use Rattle.sedspace.specs.Failures.{Rose}
use Rattle.sedscript.specs.Program.{Program}
use Rattle.sedengine.specs.State.{LimitsView, Setting, MachineState, GivesFiles, setting_of}
use Rattle.sedengine.specs.DevicesAfter.{OthersStay, SinksAtEnd}
use Rattle.sedengine.specs.Ends.{SinksGain, GainedWithin, SourceAtEnd, BreaksInLine, SinkAtEnd}
use Rattle.sededit.specs.Types.{Done, Ended, InputBroken, OutputBroken, OutputFull}
use Rattle.sededit.specs.Editing.{BeginsOutput, IsOutput, nothing_before, start_over}
use Rattle.sedfiles.specs.Files.{KeepsFiles}
use Rattle.sedfiles.specs.Opening.{WereRefused}
use Rattle.sedfiles.specs.AddedSinks.{FailsFlush}
use Rattle.sededit.specs.Ahead.{EditEnded}
use Rattle.sededit.specs.RunStatus.{Finishes, HasRun}
use Rattle.sededit.specs.Program.{Observed, KnownRun, SinkFailed, StopsEarly, WhereKnown}
use Rattle.sededit.proofs.EditLemmas.{BeginsOutput-at, IsOutput-at}
use Rattle.sedfiles.proofs.JoinLemmas.{all_joined}

-- what sinks that held this and hold that have gained is so of the run's output
abbrev Writes : (Setting → MachineState → List (ℕ × ℕ) → Type 0) → KnownRun → (old new : ℕ → Option (List ℕ)) → Type 0
Writes P run old new = WhereKnown run (λ g s. (out : List (ℕ × ℕ)) × SinksGain old new out × P g s out)

-- what sinks gained stays so where they hold the same afterwards
pub SinksGain-same : (old mid new : ℕ → Option (List ℕ)) (out : List (ℕ × ℕ)) → ((k : ℕ) → new k ≡ mid k) → SinksGain old mid out → SinksGain old new out
SinksGain-same old mid new out same h = record { each = λ k. rw (same k) (h.each k) }

pub GainedWithin-same : (l : LimitsView) (old mid new : ℕ → Option (List ℕ)) (end : Ended) (out : List (ℕ × ℕ)) → ((k : ℕ) → new k ≡ mid k) → GainedWithin l.output nothing_before old mid (Err end) out → GainedWithin l.output nothing_before old new (Err end) out
GainedWithin-same l old mid new end out same h = record { gained = SinksGain-same old mid new out same h.gained; within = h.within; full = h.full }

Rose-more : (a b c : ℕ) → Rose a b → b ≤ c → Rose a c
Rose-more a b c h more = omega (arith, h, more)

-- no number of failures falls in a flush
pub flush_rises : (r : Result Unit ℕ) (old new : ℕ → ℕ) → FailsFlush r old new → (k : ℕ) → old k ≤ new k
flush_rises (Ok u) old new same k = omega (arith, same k)
flush_rises (Err sink) old new failed k = failed.1 k

-- what an end says of a sink it says after a flush too
pub sink_flushed : (most : Option ℕ) (old mid new : ℕ → ℕ) (end : Ended) → SinksAtEnd most old mid (Err end) → ((k : ℕ) → mid k ≤ new k) →
    SinkAtEnd most old new end
sink_flushed most old mid new (OutputBroken k) failed more = Rose-more _ _ _ failed.0 (more k)
sink_flushed most old mid new (OutputFull k) failed more = failed.0
sink_flushed most old mid new _ failed more = tt

-- the source has not failed in a run that came to the ordinary end
pub source_kept : (old new : ℕ) (end : Ended) → end ≡ Done → SourceAtEnd old new end → new ≡ old
source_kept old new end is failed = let all : SourceAtEnd old new Done = rw is at failed in all

-- a sink that failed after others had not has failed since
pub sink_failed : (old mid new : ℕ → ℕ) → ((k : ℕ) → mid k ≡ old k) → SinkFailed mid new → SinkFailed old new
sink_failed old mid new same (k, rose) = (k, rw (← same k) rose)

-- and one that had failed before
pub sink_failed-more : (old mid new : ℕ → ℕ) → ((k : ℕ) → mid k ≤ new k) → SinkFailed old mid → SinkFailed old new
sink_failed-more old mid new more (k, rose) = (k, Rose-more _ _ _ rose (more k))

-- no sink has failed in a run that came to the ordinary end
pub none_failed : (old new : ℕ → ℕ) (end : Ended) → end ≡ Done → OthersStay old new end → (k : ℕ) → new k ≡ old k
none_failed old new end is failed = let all : OthersStay old new Done = rw is at failed in all

-- what a truth value says of refused openings
pub none_refused : (b : Bool) (old new : ℕ) → b ≡ false → WereRefused b old new → new ≡ old
none_refused false old new is h = h
none_refused true old new is h = absurd cc

pub some_refused : (b : Bool) (old new : ℕ) → b ≡ true → WereRefused b old new → Rose old new
some_refused true old new is h = h
some_refused false old new is h = absurd cc

-- an edit, and the flush behind it, as they are observed
module _ (l : LimitsView) (p : Program) (input more : Option (List ℕ)) (texts c0 c1 c2 : ℕ → Option (List ℕ)) (n0 n1 n2 : ℕ → ℕ) (r0 r1 i0 i1 ahead : ℕ) (end : Ended) (rest : Option (List ℕ) → Type 0)
    (edits : ForSome input (λ bytes. (files : ℕ → List ℕ) → GivesFiles texts files → EditEnded l (setting_of p files) (start_over p bytes) input more c0 c1 ahead end))
    (same : (k : ℕ) → c2 k ≡ c1 k) (source : SourceAtEnd i0 i1 end) (sinks : SinksAtEnd l.output n0 n1 (Err end)) (stays : rest more) where
  abbrev run : KnownRun
  run = record { script = p; input = input; texts = texts }

  abbrev before : Observed
  before = record { refusals = r0; reads = i0; contents = c0; failures = n0 }

  abbrev now : Observed
  now = record { refusals = r1; reads = i1; contents = c2; failures = n2 }

  begun : Writes BeginsOutput run c0 c2
  begun = λ bytes known files shown. let e = edits bytes known files shown in (e.out, SinksGain-same c0 c1 c2 e.out same e.gained.gained, BeginsOutput-at _ _ _ _ _ _ _ e.ends.cause)

  whole : end ≡ Done → Writes IsOutput run c0 c2
  whole is = λ bytes known files shown. let e = edits bytes known files shown in (e.out, SinksGain-same c0 c1 c2 e.out same e.gained.gained, IsOutput-at _ _ _ _ _ _ _ is e.ends)

  stops : end ≢ Done → ((k : ℕ) → n1 k ≤ n2 k) → StopsEarly l before now rest run
  stops early rose = (
    end,
    early,
    (source, sink_flushed l.output n0 n1 n2 end sinks rose),
    λ bytes known files shown. let e = edits bytes known files shown in (e.out, GainedWithin-same l c0 c1 c2 end e.out same e.gained, e.ends.t, e.ends.cause, λ is. (more, stays, e.ends.broken is)),
  )

  pub Ran-finished : (missed : Bool) (status : ℕ) → Finishes n1 n2 missed end status → WereRefused missed r0 r1 → HasRun l before now rest run status
  Ran-finished missed status (inl (done, kept, inl (none, is))) refused = record {
    is_one = inl is;
    meaning = record {
      whole = λ _. (whole done, none_refused missed r0 r1 none refused, source_kept i0 i1 end done source);
      missed = λ two. absurd (cc);
      stopped = λ four. absurd (cc);
      cause = λ four. absurd (cc);
    };
    no_sink = λ _ k. kept k ∙ none_failed n0 n1 end done sinks.1 k;
  }
  Ran-finished missed status (inl (done, kept, inr (some, is))) refused = record {
    is_one = inr (inl is);
    meaning = record {
      whole = λ zero. absurd (cc);
      missed = λ _. (whole done, some_refused missed r0 r1 some refused, source_kept i0 i1 end done source);
      stopped = λ four. absurd (cc);
      cause = λ four. absurd (cc);
    };
    no_sink = λ _ k. kept k ∙ none_failed n0 n1 end done sinks.1 k;
  }
  Ran-finished missed status (inr (is, rose, why)) refused = record {
    is_one = inr (inr is);
    meaning = record {
      whole = λ zero. absurd (cc);
      missed = λ two. absurd (cc);
      stopped = λ _. begun;
      cause = λ _. elim why [
        | inl early ↦ inl (stops early rose)
        | inr flushed ↦ inr (whole flushed.0, sink_failed n0 n1 n2 (none_failed n0 n1 end flushed.0 sinks.1) flushed.1, source_kept i0 i1 end flushed.0 source)
      ];
    };
    no_sink = λ other. absurd (other is);
  }

-- the same of the same input and numbers under other names
pub Ran-as : (l : LimitsView) (p : Program) (texts c0 c1 : ℕ → Option (List ℕ)) (n0 n1 : ℕ → ℕ) (rest : Option (List ℕ) → Type 0) (status : ℕ) (x y : Option (List ℕ)) (r0 r1 i0 i1 r0' r1' i0' i1' : ℕ) →
    y ≡ x → r0' ≡ r0 → r1' ≡ r1 → i0' ≡ i0 → i1' ≡ i1 →
    HasRun l (record { refusals = r0; reads = i0; contents = c0; failures = n0 }) (record { refusals = r1; reads = i1; contents = c1; failures = n1 }) rest (record { script = p; input = x; texts = texts }) status →
    HasRun l (record { refusals = r0'; reads = i0'; contents = c0; failures = n0 }) (record { refusals = r1'; reads = i1'; contents = c1; failures = n1 }) rest (record { script = p; input = y; texts = texts }) status
Ran-as l p texts c0 c1 n0 n1 rest status x y r0 r1 i0 i1 r0' r1' i0' i1' input refused refused' same same' h = rw (input, refused, refused', same, same') h

-- a run over what was made ready for it, said of how things were before
pub record Ready (files0 files1 : Option (List (Option (List ℕ)))) (texts0 texts1 sinks0 sinks1 : ℕ → Option (List ℕ)) : Type 0 where
  pub kept : KeepsFiles files0 files1
  pub same_texts : (k : ℕ) → texts1 k ≡ texts0 k
  pub same_sinks : (k : ℕ) → sinks1 k ≡ sinks0 k

shown : (a b : Option (List (Option (List ℕ)))) (bytes : List ℕ) → KeepsFiles a b → all_joined a ≡ Some bytes → all_joined b ≡ Some bytes
shown None b bytes k e = cc
shown (Some x) b bytes k e = rw k e

SinksGain-from : (a b new : ℕ → Option (List ℕ)) (out : List (ℕ × ℕ)) → ((k : ℕ) → b k ≡ a k) → SinksGain b new out → SinksGain a new out
SinksGain-from a b new out same h = record { each = λ k. rw (← same k) (h.each k) }

abbrev over_files : Program → Option (List (Option (List ℕ))) → (ℕ → Option (List ℕ)) → KnownRun
over_files p files texts = record { script = p; input = all_joined files; texts = texts }

pub WritesAs-from : (P : Setting → MachineState → List (ℕ × ℕ) → Type 0) (p : Program) (f0 f1 : Option (List (Option (List ℕ)))) (t0 t1 s0 s1 new : ℕ → Option (List ℕ)) → Ready f0 f1 t0 t1 s0 s1 →
    Writes P (over_files p f1 t1) s1 new → Writes P (over_files p f0 t0) s0 new
WritesAs-from P p f0 f1 t0 t1 s0 s1 new r h = λ bytes known files shows.
    let w = h bytes (shown f0 f1 bytes r.kept known) files (λ k. r.same_texts k ∙ shows k) in
    (w.0, SinksGain-from s0 s1 new _ r.same_sinks w.1, w.2)

GainedWithin-from : (l : LimitsView) (a b new : ℕ → Option (List ℕ)) (end : Ended) (out : List (ℕ × ℕ)) → ((k : ℕ) → b k ≡ a k) → GainedWithin l.output nothing_before b new (Err end) out → GainedWithin l.output nothing_before a new (Err end) out
GainedWithin-from l a b new end out same h = record { gained = SinksGain-from a b new out same h.gained; within = h.within; full = h.full }

sink-from : (most : Option ℕ) (n0 n1 n : ℕ → ℕ) (end : Ended) → ((k : ℕ) → n1 k ≡ n0 k) → SinkAtEnd most n1 n end → SinkAtEnd most n0 n end
sink-from most n0 n1 n (OutputBroken k) same h = rw (← same k) h
sink-from most n0 n1 n (OutputFull k) same h = h
sink-from most n0 n1 n _ same h = tt

-- what is observed before the run, before it was made ready, and after it
module _ (l : LimitsView) (p : Program) (q : Option (List ℕ) → Type 0) (f0 f1 : Option (List (Option (List ℕ)))) (t0 t1 s0 s1 new : ℕ → Option (List ℕ)) (r0 r1 r i0 i1 i : ℕ) (n0 n1 n : ℕ → ℕ) (ready : Ready f0 f1 t0 t1 s0 s1) (refused : r1 ≡ r0) (read : i1 ≡ i0)
    (same : (k : ℕ) → n1 k ≡ n0 k) where
  abbrev first : Observed
  first = record { refusals = r0; reads = i0; contents = s0; failures = n0 }

  abbrev made : Observed
  made = record { refusals = r1; reads = i1; contents = s1; failures = n1 }

  abbrev last : Observed
  last = record { refusals = r; reads = i; contents = new; failures = n }

  devices-from : (end : Ended) → SourceAtEnd i1 i end × SinkAtEnd l.output n1 n end → SourceAtEnd i0 i end × SinkAtEnd l.output n0 n end
  devices-from end h = (subst (λ m. SourceAtEnd m i end) read h.0, sink-from l.output n0 n1 n end same h.1)

  cause-from : StopsEarly l made last q (over_files p f1 t1) ⊎ (Writes IsOutput (over_files p f1 t1) s1 new × SinkFailed n1 n × (i ≡ i1)) →
      StopsEarly l first last q (over_files p f0 t0) ⊎ (Writes IsOutput (over_files p f0 t0) s0 new × SinkFailed n0 n × (i ≡ i0))
  cause-from (inl h) = inl (
    h.0,
    h.1,
    devices-from h.0 h.2,
    λ bytes known files shows.
        let (out, gained, t, cause, breaks) = h.3 bytes (shown f0 f1 bytes ready.kept known) files (λ k. ready.same_texts k ∙ shows k) in
        let P : Option (List ℕ) → Type 0 = λ input. h.0 ≡ InputBroken → (more : Option (List ℕ)) × q more × BreaksInLine (setting_of p files) (start_over p bytes) input more l.space t in
        (out, GainedWithin-from l s0 s1 new h.0 out ready.same_sinks gained, t, cause, subst P (shown f0 f1 bytes ready.kept known ∙ sym known) breaks),
  )
  cause-from (inr h) = inr (WritesAs-from IsOutput p f0 f1 t0 t1 s0 s1 new ready h.0, sink_failed n0 n1 n same h.1, h.2 ∙ read)

  pub Ran-from : (status : ℕ) → HasRun l made last q (over_files p f1 t1) status → HasRun l first last q (over_files p f0 t0) status
  Ran-from status ran = let h = ran.meaning in record {
    is_one = ran.is_one;
    meaning = record {
      whole = λ is. let w = h.whole is in (WritesAs-from IsOutput p f0 f1 t0 t1 s0 s1 new ready w.0, w.1 ∙ refused, w.2 ∙ read);
      missed = λ is. let w = h.missed is in (WritesAs-from IsOutput p f0 f1 t0 t1 s0 s1 new ready w.0, rw (← refused) w.1, w.2 ∙ read);
      stopped = λ is. WritesAs-from BeginsOutput p f0 f1 t0 t1 s0 s1 new ready (h.stopped is);
      cause = λ is. cause-from (h.cause is);
    };
    no_sink = λ other k. ran.no_sink other k ∙ same k;
  }
