use Rattle.std.proofs.Common.{[], ◌∷◌, ap, refl}
use Rattle.sedacts.specs.State.{flush, print_pattern}
use Rattle.sedacts.specs.Run.{RunState}
use Rattle.sedengine.specs.declared.next_step.NextStep.TheVariants as p
use Rattle.sedengine.proofs.Tasks.{placed}
use Rattle.sedengine.proofs.machine.Machine.act_quit.Goals as goal

pub returns : goal.returns
returns c = ap (λ (e : RunState). record e { state = record e.state { tasks = print_pattern ∷ flush ∷ [] } }) c.self.view_is

pub invariant_of-self : goal.invariant_of-self
invariant_of-self c = placed c.self.inside c.self.inside.pattern p.WriteLast c.self.invariant refl c.self.invariant.pattern tt
