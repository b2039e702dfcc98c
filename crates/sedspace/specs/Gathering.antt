-- Private to the proofs: no contract of a public item cites what is here.
-- How a line is gathered from several reads.
use Rattle.std.specs.Prelude.{◌≡◌, ℕ, ◌+◌, ◌<◌, ◌≤◌, ◌⊎◌, true, List, [], ◌∷◌, ◌++◌, length, Option, Result, Ok, Err}
use Rattle.std.specs.List.{before_first}
use Rattle.std.specs.Io.KnownBytes.{Consumes, IsAtEnd}
use Rattle.sedspace.specs.Spaces.{SpaceView}
use Rattle.sedspace.specs.declared.lines.Got.{Got}
use Rattle.sedspace.specs.declared.lines.Got.TheVariants.{Line, End}
use Rattle.sedspace.specs.declared.errors.LineFault.{LineFault}
use Rattle.sedspace.specs.declared.errors.LineFault.TheVariants.{Broken, TooLong}
use Rattle.sedspace.specs.FailureCounts.{Rises}
use Rattle.sedspace.specs.Lines.{is_newline, HasNoNewline}
use Rattle.sedspace.specs.Stream.{Stream, left}

-- a part of a line was gathered: it is in the space, and these bytes were taken from the source for it
pub record Gathered {R : Type 0} (remaining : R → Option (List ℕ)) (old new : Stream R) (before after : SpaceView)
    (part taken : List ℕ) : Type 0 where
  pub space : after ≡ record { bytes = before.bytes ++ part; limit = before.limit }
  pub part_is : HasNoNewline part
  pub left_is : Consumes (left remaining old) (left remaining new) part
  pub source_is : Consumes (remaining old.source) (remaining new.source) taken
  pub count : length old.ahead + length taken ≡ length part + length new.ahead
  pub read_ahead_is : new.read_ahead ≡ old.read_ahead
  pub fault_is : new.fault ≡ old.fault
  pub ended_is : old.ended ≡ true → (new.source ≡ old.source) × (new.ended ≡ true)
  pub whole_is : HasNoNewline old.ahead ⊎ ((new.source ≡ old.source) × (old.ahead ≡ part ++ new.ahead))

-- a line was gathered into a space, and its newline dropped
pub record GatheredLine {R : Type 0} (remaining : R → Option (List ℕ)) (old new : Stream R) (before after : SpaceView)
    (line taken : List ℕ) : Type 0 where
  pub space : after ≡ record { bytes = before.bytes ++ line; limit = before.limit }
  pub line_is : HasNoNewline line
  pub left_is : Consumes (left remaining old) (left remaining new) (line ++ 10 ∷ [])
  pub source_is : Consumes (remaining old.source) (remaining new.source) taken
  pub count : length old.ahead + length taken ≡ length line + 1 + length new.ahead
  pub read_ahead_is : new.read_ahead ≡ old.read_ahead
  pub fault_is : new.fault ≡ old.fault
  pub ended_is : old.ended ≡ true → (new.source ≡ old.source) × (new.ended ≡ true)
  pub whole_is : HasNoNewline old.ahead ⊎ (new.source ≡ old.source)

-- what an answer means, before a fault is kept
abbrev pub Gathers : {R : Type 0} → (R → Option (List ℕ)) → (R → ℕ) → Stream R → Stream R → SpaceView → SpaceView
    → Result Got LineFault → Type 0
Gathers remaining failures old new before after (Ok Line) =
    (failures new.source ≡ failures old.source) × (line : List ℕ) × (taken : List ℕ)
    × (GatheredLine remaining old new before after line taken
    ⊎ (Gathered remaining old new before after line taken × (0 < length line) × IsAtEnd (left remaining new)
    × (new.ended ≡ true)))
Gathers remaining failures old new before after (Ok End) =
    (failures new.source ≡ failures old.source) × (taken : List ℕ) × Gathered remaining old new before after [] taken
    × IsAtEnd (left remaining new) × (new.ended ≡ true)
Gathers remaining failures old new before after (Err TooLong) =
    (failures new.source ≡ failures old.source) × (part : List ℕ) × (taken : List ℕ)
    × Gathered remaining old new before after part taken
    × (length after.bytes ≤ after.limit) × (after.limit < length after.bytes + length (before_first is_newline new.ahead))
Gathers remaining failures old new before after (Err Broken) =
    Rises (failures old.source) (failures new.source) × (part : List ℕ) × (taken : List ℕ)
    × Gathered remaining old new before after part taken × (length after.bytes ≤ after.limit) × (new.ahead ≡ [])
