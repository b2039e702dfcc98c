use Rattle.std.proofs.Common.{◌<◌, ℕ}
use Rattle.std.specs.Prelude.{slice_get}
use Rattle.sedacts.specs.Keeping.{CommandHolds}
use Rattle.sedacts.proofs.needs.hold_room.Given as goal

abbrev pub invariant-loop-k : goal.invariant-loop-k
invariant-loop-k l = (i : ℕ) → i < l.k → CommandHolds (slice_get l.script.commands i) → ⊥
