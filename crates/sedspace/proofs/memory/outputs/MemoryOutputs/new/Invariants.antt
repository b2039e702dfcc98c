use Rattle.std.proofs.Common.{◌≡◌, ◌≤◌, ◌-◌, ◌^◌, replicate, false}
use Rattle.std.specs.Prelude.{vec_len, vec_capacity}
use Rattle.sedspace.specs.Memory.{new_sink}
use Rattle.sedspace.proofs.memory.outputs.MemoryOutputs.new.Given as goal

abbrev pub invariant-loop : goal.invariant-loop
invariant-loop l = record {
  made : l.held.items ≡ replicate l.counter (new_sink (2 ^ 64 - 1) false);
  count : vec_len l.held ≡ l.counter;
  room : l.sinks ≤ vec_capacity l.held;
}
