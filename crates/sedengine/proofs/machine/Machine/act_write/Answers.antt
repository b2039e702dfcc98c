use Rattle.sedacts.specs.Move.{line_to}
use Rattle.sedacts.specs.Run.{RunState}
use Rattle.sedengine.proofs.Ending.{writes_seen}
use Rattle.sedengine.proofs.machine.Machine.act_write.Goals as goal

pub returns : goal.returns
returns g c = writes_seen c.self.inside c.args.self.now (λ (e : RunState). line_to c.args.sink e.state.pattern) c.self.view_is (rw c.line.ensures.value at c.write_all.ensures)
