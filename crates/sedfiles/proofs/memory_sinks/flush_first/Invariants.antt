use Rattle.std.proofs.Common.{◌≡◌, ◌<◌, ◌≤◌, ℕ, length, slice_get}
use Rattle.sedspace.specs.Memory.{sink_bytes, sink_failures}
use Rattle.sedfiles.specs.MemorySinks.{NextFails}
use Rattle.sedfiles.proofs.memory_sinks.flush_first.Given as goal

-- nothing of the sinks has changed but how many writes came
abbrev pub invariant-loop-sink : goal.invariant-loop-sink
invariant-loop-sink l = record {
  sinks : length l.outputs.held ≡ length l.fn.outputs.held;
  kept : (k : ℕ) → sink_bytes l.outputs k ≡ sink_bytes l.fn.outputs k;
  failed : (k : ℕ) → sink_failures l.outputs k ≡ sink_failures l.fn.outputs k;
  ahead : (k : ℕ) → l.sink ≤ k → slice_get l.outputs.held k ≡ slice_get l.fn.outputs.held k;
  passed : (k : ℕ) → k < l.sink → NextFails l.fn.outputs k → ⊥;
}
