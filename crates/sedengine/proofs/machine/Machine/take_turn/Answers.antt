use Rattle.std.proofs.Common.{ap}
use Rattle.std.specs.Prelude.{slice_set}
use Rattle.sedacts.specs.Run.{RunState}
use Rattle.sedengine.specs.Judging.{reached_with}
use Rattle.sedengine.proofs.machine.Machine.take_turn.Goals as goal

pub returns : goal.returns
returns c = ap (λ (e : RunState). reached_with e c.args.k (slice_set e.state.ranges c.args.k c.args.active) e.state.used) c.self.view_is
