-- What contracts see of the forms over memory.
use Rattle.std.specs.Prelude.{Vec, unwrap_or, ◌≡◌, ℕ, ◌-◌, ◌<◌, ◌⊎◌, Bool, false, ◌&&◌, nat_lt, if◌then◌else◌, min, List, [], ◌∷◌, ◌++◌, length, take, Option, Some, None, Result, Ok, Err, slice_get}
use Rattle.std.specs.Option.{option_map}
use Rattle.sedspace.specs.declared.errors.Broken.{Broken}
use Rattle.sedspace.specs.FailureCounts.{raised}

-- a source over memory: its bytes, the places that no read passes, the most bytes of a read, how many bytes were
-- taken, its calls, the call that fails, and its failures
pub record Feed : Type 0 where
  pub bytes : List ℕ
  pub cuts : List ℕ
  pub most : ℕ
  pub taken : ℕ
  pub calls : ℕ
  pub fails_at : Option ℕ
  pub failures : ℕ

-- where the piece after the bytes taken ends: at the first cut between them and the end, or at the end
abbrev pub piece_end : List ℕ → ℕ → ℕ → ℕ
piece_end [] taken end = end
piece_end (cut ∷ cuts) taken end = if nat_lt taken cut && nat_lt cut end then cut else piece_end cuts taken end

-- a sink over memory: its bytes, how many more it may take, whether their room is reserved, its writes, the write that
-- fails, and its failures
pub record Sink : Type 0 where
  pub bytes : List ℕ
  pub room : ℕ
  pub reserved : Bool
  pub writes : ℕ
  pub fails_at : Option ℕ
  pub failures : ℕ

-- sinks over memory, and the most bytes that a write takes
pub record HeldSinks : Type 0 where
  pub held : List Sink
  pub most : ℕ

-- a sink that nothing was written to
abbrev pub new_sink : ℕ → Bool → Sink
new_sink room reserved =
    record { bytes = []; room = room; reserved = reserved; writes = 0; fails_at = None; failures = 0 }

-- what a sink contains
abbrev pub sink_bytes : HeldSinks → ℕ → Option (List ℕ)
sink_bytes o k = option_map (λ s. s.bytes) (slice_get o.held k)

-- how often a sink failed
abbrev pub sink_failures : HeldSinks → ℕ → ℕ
sink_failures o k = unwrap_or (option_map (λ s. s.failures) (slice_get o.held k)) 0

-- a write is counted, and takes as many bytes as are given, as may be taken at once, and as there is room for; it fails
-- where it is set to, and where none of some bytes has room; without reserved room it may be refused memory, too
abbrev pub TakesBytes : Sink → Sink → ℕ → List ℕ → Result ℕ Broken → Type 0
TakesBytes old new most bytes (Ok n) =
    (n ≡ min (min (length bytes) most) old.room) × (0 < length bytes → 0 < n) × ¬ (old.fails_at ≡ Some new.writes)
    × (new ≡ record old { bytes = old.bytes ++ take n bytes; room = old.room - n; writes = raised old.writes })
TakesBytes old new most bytes (Err e) =
    (old.fails_at ≡ Some new.writes ⊎ ((0 < length bytes) × (old.room ≡ 0 ⊎ old.reserved ≡ false)))
    × (new ≡ record old { writes = raised old.writes; failures = raised old.failures })

-- a text of a list; one that isn't there is empty
abbrev pub text_bytes : {A : Type 0} → List (Vec ℕ A) → ℕ → List ℕ
text_bytes texts k = unwrap_or (option_map (λ x. x.items) (slice_get texts k)) []
