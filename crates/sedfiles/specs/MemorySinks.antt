-- What contracts see of sinks over memory to which files are added.
use Rattle.std.specs.Prelude.{◌≡◌, ◌<◌, ℕ, Bool, false, nat_lt, if◌then◌else◌, List, [], Option, Some, Result, Ok, Err, slice_get}
use Rattle.std.specs.Option.{option_map_or}
use Rattle.std.specs.Str.{bytes_eq}
use Rattle.sedspace.specs.FailureCounts.{raised}
use Rattle.sedspace.specs.Memory.{Sink, HeldSinks, sink_bytes}

-- sinks over memory: all that there can be, the names of the files among them (all but the first) in their order, and how
-- many of these were created
pub record SinkFiles : Type 0 where
  pub outputs : HeldSinks
  pub names : List (List ℕ)
  pub created : ℕ

-- what a sink contains: a file that wasn't created yet contains nothing
abbrev pub contents_of : SinkFiles → ℕ → Option (List ℕ)
contents_of s k = if nat_lt s.created k then Some [] else sink_bytes s.outputs k

-- whether the file that can be created next has this name
abbrev pub is_created_next : SinkFiles → List ℕ → Bool
is_created_next s name = option_map_or (λ next. bytes_eq next name) (slice_get s.names s.created) false

-- the next write to a sink is set to fail
abbrev pub NextFails : HeldSinks → ℕ → Type 0
NextFails o k = (s : Sink) × (slice_get o.held k ≡ Some s) × (s.fails_at ≡ Some (raised s.writes))

-- A flush of the first sinks, so many, fails at the first of them whose next write is set to fail, and where none is it
-- doesn't fail.
abbrev pub FlushesFirst : HeldSinks → ℕ → Result Unit ℕ → Type 0
FlushesFirst o count (Ok u) = (k : ℕ) → k < count → NextFails o k → ⊥
FlushesFirst o count (Err k) = (k < count) × NextFails o k × ((j : ℕ) → j < k → NextFails o j → ⊥)
