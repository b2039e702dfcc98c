use Rattle.std.proofs.Common.{◌≤◌, ℕ, Contains, length, take}
use Rattle.sedacts.specs.Idle.{ClearTo}
use Rattle.sedacts.proofs.block.clear_end.Given as goal

abbrev pub invariant-each : goal.invariant-each
invariant-each l = record {
  within : l.end ≤ length l.text;
  clear : (e : ℕ) → Contains (take l.e-index l.expressions) e → ClearTo l.matchers.items e l.text l.end;
}
