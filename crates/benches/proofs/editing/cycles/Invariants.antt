use Rattle.std.proofs.Common.{◌≡◌, ◌<◌, length}
use Rattle.benches.proofs.editing.cycles.Given as goal

abbrev pub invariant-loop-cycle : goal.invariant-loop-cycle
invariant-loop-cycle g l = (l.lines.read_ahead ≡ l.engine.limits.look) × (length l.engine.script.wfiles < g.O.Outputs.count l.outputs)
