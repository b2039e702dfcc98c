use Rattle.std.proofs.Common.{◌-◌, ◌≤◌, length}
use Rattle.sedscript.specs.Ranges.{IsOneOf}
use Rattle.sedacts.specs.Idle.{Walked}
use Rattle.sedacts.proofs.idle.idle_of.Given as goal

abbrev pub invariant-walk : goal.invariant-walk
invariant-walk l = record {
  walked : Walked l.script.commands l.script.substitutions l.idle;
  one : IsOneOf (length l.script.expressions) l.idle.judged;
  few : l.idle.reached ≤ 64;
}

abbrev pub decreases-walk : goal.decreases-walk
decreases-walk l = 64 - l.idle.reached
