use Rattle.std.proofs.Common.{◌≡◌, ◌≢◌, ◌-◌, ◌≤◌, ℕ, length, take}
use Rattle.std.specs.Io.KnownBytes.{Appends, Keeps}
use Rattle.sedspace.proofs.outputs.write_all.Given as goal

abbrev pub invariant-loop-done : goal.invariant-loop-done
invariant-loop-done g l = record {
  within : l.done ≤ length l.bytes;
  appends : Appends (g.O.Outputs.contents l.fn.outputs l.sink) (g.O.Outputs.contents l.outputs l.sink) (take l.done l.bytes);
  failed : g.O.Outputs.failures l.outputs l.sink ≡ g.O.Outputs.failures l.fn.outputs l.sink;
  others : (k : ℕ) → k ≢ l.sink → Keeps (g.O.Outputs.contents l.fn.outputs k) (g.O.Outputs.contents l.outputs k);
  others_failed : (k : ℕ) → k ≢ l.sink → g.O.Outputs.failures l.outputs k ≡ g.O.Outputs.failures l.fn.outputs k;
  sinks : g.O.Outputs.count l.outputs ≡ g.O.Outputs.count l.fn.outputs;
  same_names : g.O.Outputs.names l.outputs ≡ g.O.Outputs.names l.fn.outputs;
}

abbrev pub decreases-loop-done : goal.decreases-loop-done
decreases-loop-done g l = length l.bytes - l.done
