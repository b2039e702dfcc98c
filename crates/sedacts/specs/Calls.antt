-- Private to the proofs: no contract that `sedengine` makes public cites what is here.
-- What the engine's calls do to the devices that they are given.
use Rattle.std.specs.Prelude.{◌≡◌, ◌≢◌, ℕ, ◌<◌, ◌≤◌, max, Option, Some, None, Result, Ok, Err, OnOk, List, [], length, take, slice_get}
use Rattle.std.specs.Borrow.{GName}
use Rattle.sedspace.specs.Stream.{Stream}
use Rattle.sedspace.specs.Reading.{TakesAtMost}
use Rattle.sedspace.specs.Failures.{Rose}
use Rattle.sedacts.specs.Run.{FailedSource}
use Rattle.sedacts.specs.Ends.{named_sink}
use Rattle.sedacts.specs.Meters.{WereSent, SinkView, FullSink}
use Rattle.sedacts.specs.Move.{to_sink}
use Rattle.sedacts.specs.declared.meter.CutShort.{CutShort}
use Rattle.sedacts.specs.Types.{Ended, InputBroken, OutputBroken, OutputFull}

-- All of these bytes were written, or a sink failed or was full where one of them was due.
abbrev pub PutsBytes : SinkView → SinkView → List (ℕ × ℕ) → Result Unit Ended → Type 0
PutsBytes old new out (Ok u) = WereSent old new out
PutsBytes old new out (Err end) =
    (k : ℕ) × (b : ℕ) × (byte : ℕ) × (named_sink end ≡ Some k) × (slice_get out b ≡ Some (k, byte)) × WereSent old new (take b out)

-- All of these bytes were written to this sink, or it gained so many of them and took no more.
abbrev pub PutsPart : SinkView → SinkView → ℕ → List ℕ → Result Unit CutShort → Type 0
PutsPart old new sink bytes (Ok u) = WereSent old new (to_sink sink bytes)
PutsPart old new sink bytes (Err cut) =
    (cut.done < length bytes) × (named_sink cut.end ≡ Some sink) × WereSent old new (to_sink sink (take cut.done bytes))

-- the same answer without the number of bytes
abbrev pub without_count : Result Unit CutShort → Result Unit Ended
without_count (Ok u) = Ok tt
without_count (Err cut) = Err cut.end

-- A sink that an answer names as broken has failed, and no other.
abbrev pub FailedSink : (ℕ → ℕ) → (ℕ → ℕ) → Result Unit Ended → Type 0
FailedSink old new (Err (OutputBroken k)) = Rose (old k) (new k) × ((j : ℕ) → j ≢ k → new j ≡ old j)
FailedSink old new other = (k : ℕ) → new k ≡ old k

-- What a call that may write does to the sinks: only what they contain, their failures and the counts change; a sink has failed
-- only where the answer names it, and one that it names as full has gained exactly the limit.
pub record Delivers {O : Type 0} (tally : O → SinkView) (count : O → ℕ) (old new : O) (result : Result Unit Ended) : Type 0 where
  pub same_count : count new ≡ count old
  pub same_frame : (tally new).frame ≡ (tally old).frame
  pub failed : FailedSink (tally old).failures (tally new).failures result
  pub full : FullSink (tally new) result

-- What a call answers that writes these bytes, and does nothing else.
pub record WritesAll {O : Type 0} (tally : O → SinkView) (count : O → ℕ) (old new : O) (out : List (ℕ × ℕ))
    (result : Result Unit Ended) : Type 0 where
  pub puts : PutsBytes (tally old) (tally new) out result
  pub devices : Delivers tally count old new result

-- The same of a call that reports how many bytes a sink has gained that took no more.
pub record WritesPart {O : Type 0} (tally : O → SinkView) (count : O → ℕ) (old new : O) (sink : ℕ) (bytes : List ℕ)
    (result : Result Unit CutShort) : Type 0 where
  pub puts : PutsPart (tally old) (tally new) sink bytes result
  pub devices : Delivers tally count old new (without_count result)

-- What a call does that may write, and reads no line.
pub record DeliversAlone {O : Type 0} (tally : O → SinkView) (count : O → ℕ) (old new : O) (result : Result Unit Ended) :
    Type 0 where
  pub output : Delivers tally count old new result
  pub input : result ≡ Err InputBroken → ⊥

-- What a call that may read does to the lines. What it says of faults applies to lines that answered no fault before.
pub record ReadsLines {R T : Type 0} (remaining : R → Option (List ℕ)) (failures : R → ℕ) (reference : R → List GName)
    (old new : Stream R) (result : Result T Ended) : Type 0 where
  pub same_read_ahead : new.read_ahead ≡ old.read_ahead
  pub same_reference : reference new.source ≡ reference old.source
  pub ahead : length new.ahead ≤ max (length old.ahead) old.read_ahead
  pub shrinks : (n : ℕ) × TakesAtMost (remaining old.source) (remaining new.source) n
  pub sound : OnOk result (old.fault ≡ None → new.fault ≡ None)
  pub failed : old.fault ≡ None → FailedSource (failures old.source) (failures new.source) result
  pub broken : result ≡ Err InputBroken → old.fault ≡ None → new.ahead ≡ []

-- an answer that names no sink
abbrev pub NoSinkFailed : {T : Type 0} → Result T Ended → Type 0
NoSinkFailed (Err (OutputBroken k)) = ⊥
NoSinkFailed (Err (OutputFull k)) = ⊥
NoSinkFailed other = Unit {0}

-- an answer that names no device
pub record NamesNone {T : Type 0} (result : Result T Ended) : Type 0 where
  pub output : NoSinkFailed result
  pub input : result ≡ Err InputBroken → ⊥

-- What a call does that may read, and writes nothing.
pub record ReadsAlone {R T : Type 0} (remaining : R → Option (List ℕ)) (failures : R → ℕ) (reference : R → List GName)
    (old new : Stream R) (result : Result T Ended) : Type 0 where
  pub input : ReadsLines remaining failures reference old new result
  pub output : NoSinkFailed result
