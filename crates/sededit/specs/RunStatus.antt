-- Private to the proofs: no contract of a public item cites what is here.
-- What a run of the program comes to, by its status, and what is so where there was none.
use Rattle.std.specs.Prelude.{◌≡◌, ◌≢◌, ◌⊎◌, ◌≤◌, ℕ, Bool, true, false, Option, List}
use Rattle.sedengine.specs.State.{LimitsView}
use Rattle.sededit.specs.Types.{Done, Ended}
use Rattle.sededit.specs.Program.{HelpMeans, Observed, KnownRun, SinkFailed, StatusMeans}

-- The status of an end, once the sinks were flushed, which led from these numbers of failures to those: at the ordinary end 0, or
-- 2 where a file was missed, and else 4.
abbrev pub Finishes : (old new : ℕ → ℕ) → Bool → Ended → ℕ → Type 0
Finishes old new missed end status =
    ((end ≡ Done) × ((k : ℕ) → new k ≡ old k) × (((missed ≡ false) × (status ≡ 0)) ⊎ ((missed ≡ true) × (status ≡ 2))))
    ⊎ ((status ≡ 4) × ((k : ℕ) → old k ≤ new k) × ((end ≢ Done) ⊎ ((end ≡ Done) × SinkFailed old new)))

-- There was a run, and this is its status.
pub record HasRun (limits : LimitsView) (old new : Observed) (rest : Option (List ℕ) → Type 0) (run : KnownRun) (status : ℕ) : Type 0 where
  pub is_one : (status ≡ 0) ⊎ ((status ≡ 2) ⊎ (status ≡ 4))
  pub meaning : StatusMeans limits old new rest status run
  pub no_sink : status ≢ 4 → (k : ℕ) → new.failures k ≡ old.failures k

-- There was no run: the status is 1, the sinks have what they had, of the inputs only scripts were read, and of the files that
-- the script writes the first ones were created, if any.
pub record Refuses (old new : Observed) (status : ℕ) (Unread Created : Type 0) : Type 0 where
  pub says_refused : status ≡ 1
  pub contents : (k : ℕ) → new.contents k ≡ old.contents k
  pub failures : (k : ℕ) → new.failures k ≡ old.failures k
  pub unread : Unread
  pub created : Created

-- Help was written: a sink failed at status 4, and at no other.
pub record Helps (old new : ℕ → Option (List ℕ)) (failures_old failures_new : ℕ → ℕ) (names_old names_new : List (List ℕ))
    (status : ℕ) : Type 0 where
  pub meaning : HelpMeans old new failures_old failures_new status
  pub no_sink : status ≢ 4 → (k : ℕ) → failures_new k ≡ failures_old k
  pub names : names_new ≡ names_old
