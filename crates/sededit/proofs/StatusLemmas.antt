-- What a status of `command` means, clause by clause: what each says for itself, of what `means` says of all.
use Rattle.std.proofs.Common.{◌≡◌, ◌≢◌, ◌⊎◌, ◌∙◌, inl, inr, ℕ, List, Option, sym}
use Rattle.clap.specs.Words.{Text}
use Rattle.sedspace.specs.Failures.{Rose}
use Rattle.sedengine.specs.State.{LimitsView}
use Rattle.sedengine.specs.Ends.{SinksGain}
use Rattle.sedengine.specs.Move.{to_sink}
use Rattle.sededit.specs.Editing.{BeginsOutput, IsOutput}
use Rattle.sededit.specs.Program.{AsksHelp, HelpMeans, Observed, KnownRun, RunsAs, SinkFailed, StatusMeans, StopsEarly, KnownFiles, WritesAs, run_of}

module _ (shown : KnownFiles) (nodes : ℕ) (words : List Text) (Created : KnownRun → Type 0) (limits : LimitsView) (old new : Observed)
    (rest : Option (List ℕ) → Type 0) (Untouched : Type 0) (status : ℕ) where
  -- the run that the words ask for created its files, and is so
  abbrev RunsSo : (KnownRun → Type 0) → Type 0
  RunsSo P = RunsAs shown nodes words (λ run. Created run × P run)

  -- the words ask for help, this is so, and no input was touched
  abbrev Helps : Type 0 → Type 0
  Helps H = AsksHelp words × H × Untouched

  -- a text was written to sink 0
  abbrev WritesText : Type 0
  WritesText = (text : List ℕ) × SinksGain old.contents new.contents (to_sink 0 text)

  -- what a status says where help was asked for
  abbrev HelpStatus : Type 0
  HelpStatus = HelpMeans old.contents new.contents old.failures new.failures status

  -- the clause `means`
  abbrev Means : Type 0
  Means = status ≢ 1 → RunsSo (StatusMeans limits old new rest status) ⊎ Helps HelpStatus

  -- what it says of one status
  each : (P : KnownRun → Type 0) (H : Type 0) (n : ℕ) → n ≢ 1 → status ≡ n → ((run : KnownRun) → StatusMeans limits old new rest status run → P run) → (HelpStatus → H) → Means → RunsSo P ⊎ Helps H
  each P H n other is f g means = from (means (λ one. other (sym is ∙ one)))
    where
      from : RunsSo (StatusMeans limits old new rest status) ⊎ Helps HelpStatus → RunsSo P ⊎ Helps H
      from (inl (sound, (l, line, (p, gives, (made, h))))) = inl (sound, (l, line, (p, gives, (made, f (run_of shown l p) h))))
      from (inr (asks, h, same)) = inr (asks, g h, same)

  -- 0: all was written, no input file was missed, and no read of the input failed; or help was written
  pub status_whole : Means → status ≡ 0 → RunsSo (λ run. WritesAs IsOutput run old new × (new.refusals ≡ old.refusals) × (new.reads ≡ old.reads)) ⊎ Helps WritesText
  status_whole means is = each _ _ 0 (λ e. cc) is (λ run h. h.whole is) (λ h. h.help) means

  -- 2: all was written, an input file was missed, and no read of the input failed
  pub status_missed : Means → status ≡ 2 → RunsSo (λ run. WritesAs IsOutput run old new × Rose old.refusals new.refusals × (new.reads ≡ old.reads))
  status_missed means is = from (each _ ⊥ 2 (λ e. cc) is (λ run h. h.missed is) (λ h. neither h.either) means)
    where
      neither : (status ≡ 0) ⊎ (status ≡ 4) → ⊥
      neither (inl e) = cc
      neither (inr e) = cc

      from : {A : Type 0} → A ⊎ Helps ⊥ → A
      from (inl runs) = runs
      from (inr (asks, h, same)) = absurd h

  -- 4: a beginning was written, and the run stopped early, or all was written and a sink failed when flushed; or a text for help
  -- was written, and a sink failed
  abbrev EndsEarly : KnownRun → Type 0
  EndsEarly run = WritesAs BeginsOutput run old new × (StopsEarly limits old new rest run ⊎ (WritesAs IsOutput run old new × SinkFailed old.failures new.failures × (new.reads ≡ old.reads)))

  pub status_stopped : Means → status ≡ 4 → RunsSo EndsEarly ⊎ Helps (WritesText × SinkFailed old.failures new.failures)
  status_stopped means is = each EndsEarly (WritesText × SinkFailed old.failures new.failures) 4 (λ e. cc) is (λ run h. (h.stopped is, h.cause is)) (λ h. (h.help, h.failed is)) means

  -- any other: what the clauses of status 1 say, that nothing was written, say
  pub status_refused : {Refused : Type 0} → (status ≡ 0) ⊎ ((status ≡ 1) ⊎ ((status ≡ 2) ⊎ (status ≡ 4))) → (status ≡ 1 → Refused) → status ≢ 0 → status ≢ 2 → status ≢ 4 → Refused
  status_refused (inl e) refused whole missed stopped = absurd (whole e)
  status_refused (inr (inl e)) refused whole missed stopped = refused e
  status_refused (inr (inr (inl e))) refused whole missed stopped = absurd (missed e)
  status_refused (inr (inr (inr e))) refused whole missed stopped = absurd (stopped e)
