-- Private to the proofs: no contract of a public item cites what is here.
-- The law of sinks over memory that aren't there yet.
use Rattle.std.specs.Prelude.{◌≡◌, ◌≤◌, ◌+◌, ℕ, [], IfSome}
use Rattle.std.proofs.Common.{refl, arith}
use Rattle.std.proofs.lemmas.Bool.{lt-ltb}
use Rattle.sedfiles.specs.MemorySinks.{SinkFiles, contents_of}

-- a sink that isn't there yet is as an empty one
pub absent_holds_nothing : (s : SinkFiles) (k : ℕ) → s.created + 1 ≤ k → IfSome (contents_of s k) (λ bytes. bytes ≡ [])
absent_holds_nothing s k past = rw (lt-ltb s.created k (omega (arith, past))) refl
