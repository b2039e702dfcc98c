-- Private to the proofs: no contract that `sedengine` makes public cites what is here.
-- The sinks as its calls write to them, each counted where a limit is set.
use Rattle.std.specs.Prelude.{◌≡◌, ℕ, ◌+◌, ◌≤◌, Option, Some, None, Result, Err, List, length, get_or}
use Rattle.std.specs.List.{All}
use Rattle.std.specs.Borrow.{GName}
use Rattle.sedacts.specs.Ends.{bytes_of_sink, SinksGain}
use Rattle.sedacts.specs.Types.{Ended, OutputFull}

-- a meter: the most bytes that each sink may gain, where a limit is set, and how many each has gained
pub record Meter : Type 0 where
  pub most : Option ℕ
  pub sent : List ℕ

-- no sink has gained more than the limit
abbrev pub InLimit : Option ℕ → List ℕ → Type 0
InLimit None sent = Unit {0}
InLimit (Some most) sent = All (λ n. n ≤ most) sent

-- there is room for so many bytes more in a sink
abbrev pub FitsIn : Option ℕ → List ℕ → ℕ → ℕ → Type 0
FitsIn None sent sink n = Unit {0}
FitsIn (Some most) sent sink n = get_or sent sink 0 + n ≤ most

-- so many bytes more make a sink full
abbrev pub Fills : Option ℕ → List ℕ → ℕ → ℕ → Type 0
Fills None sent sink n = ⊥
Fills (Some most) sent sink n = get_or sent sink 0 + n ≡ most

-- how many bytes a sink has gained, where they are counted
abbrev pub counted_bytes : Option ℕ → List ℕ → ℕ → Option ℕ
counted_bytes None sent k = None
counted_bytes (Some most) sent k = Some (get_or sent k 0)

-- a count, where there is one, grows by so many
abbrev pub GrowsBy : Option ℕ → Option ℕ → ℕ → Type 0
GrowsBy None new n = Unit {0}
GrowsBy (Some a) None n = ⊥
GrowsBy (Some a) (Some b) n = b ≡ a + n

-- What no write changes: how many sinks there are and how many counts, the limit, the names of the files among the sinks,
-- and which references hold the sinks and the meter, so that their lender learns what became of them.
pub record SinksFrame : Type 0 where
  pub sinks : ℕ
  pub counts : ℕ
  pub most : Option ℕ
  pub names : List (List ℕ)
  pub references : GName × GName

-- the sinks: what each has, where that is known, how often it failed, and how many bytes it has gained since the engine was
-- opened, where they are counted
pub record SinkView : Type 0 where
  pub contents : ℕ → Option (List ℕ)
  pub failures : ℕ → ℕ
  pub sent : ℕ → Option ℕ
  pub frame : SinksFrame

-- the sinks have gained these bytes, and they were counted
pub record WereSent (old new : SinkView) (out : List (ℕ × ℕ)) : Type 0 where
  pub gained : SinksGain old.contents new.contents out
  pub counts : (k : ℕ) → GrowsBy (old.sent k) (new.sent k) (length (bytes_of_sink k out))

-- a sink that an end names as full is
abbrev pub FullSink : SinkView → Result Unit Ended → Type 0
FullSink t (Err (OutputFull k)) = (n : ℕ) × (t.frame.most ≡ Some n) × (t.sent k ≡ Some n)
FullSink t other = Unit {0}
