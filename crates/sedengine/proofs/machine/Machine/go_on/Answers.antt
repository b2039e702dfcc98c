use Rattle.std.proofs.Common.{[], ap}
use Rattle.sedacts.specs.Run.{RunState}
use Rattle.sedengine.proofs.machine.Machine.go_on.Goals as goal

pub returns-in-End : goal.returns-in-End
returns-in-End c = rw c.in-End.is (ap (λ (e : RunState). record e { state = record e.state { tasks = [] } }) c.self.view_is)
