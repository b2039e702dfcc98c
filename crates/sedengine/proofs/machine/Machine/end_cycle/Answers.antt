use Rattle.std.proofs.Common.{◌≤◌, ◌∷◌, ◌∙◌, ap, refl, subst}
use Rattle.sedacts.specs.State.{flush}
use Rattle.sedacts.specs.Run.{RunState}
use Rattle.sedengine.specs.Inside.{run_state_of, tasks_of}
use Rattle.sedengine.proofs.Ending.{placed_ended, run_kept, tasks_kept, weight_ended}
use Rattle.sedengine.proofs.Leaving.{leaves_seen}
use Rattle.sedengine.proofs.Tasks.{placed}
use Rattle.sedengine.proofs.machine.Machine.end_cycle.Goals as goal

pub returns : goal.returns
returns g c =
    let a = c.self.inside in
    let e = c.args.self.now in
    let e' = c.flush.new.self in
    let next_step = c.args.next_step in
    let e1 = run_state_of (record a { next_step = next_step }) in
    let w = c.flush.ensures in
    let at = tasks_kept e1 e' c.flush.result w.ok w.err in
    let run = run_kept e1 e' c.flush.result w.ok w.err in
    let L : RunState → Type 0 = λ e. e.state.turns ≤ e'.state.turns in
    record {
      moves = λ files shown ls. placed_ended a e e' next_step files ls (flush ∷ tasks_of next_step) _ _ c.flush.result c.self.view_is at (w.moves files shown ls (tasks_of next_step));
      falls = weight_ended e e' next_step (run.same_limits ∙ ap (λ (e : RunState). e.limits) c.self.view_is) (subst L c.self.view_is w.later) at;
      leaves = leaves_seen a e e1 c.self.view_is refl refl (record { devices = w.devices; same = run; kept = w.kept });
    }

pub invariant_of-self : goal.invariant_of-self
invariant_of-self g c =
    placed c.self.inside c.self.inside.pattern c.args.next_step c.self.invariant refl c.self.invariant.pattern (rw (← c.self.view_is) at c.requires.emptied)
