use Rattle.sedacts.specs.Idle.{Cleared}
use Rattle.sedacts.proofs.idle.clear_lines.Given as goal

abbrev pub invariant-walk : goal.invariant-walk
invariant-walk l = Cleared l.script.commands l.script.substitutions l.ranges l.number l.j l.place l.most
