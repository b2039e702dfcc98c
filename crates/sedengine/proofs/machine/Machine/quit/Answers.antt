use Rattle.std.proofs.Common.{[], ◌∷◌, ◌≤◌, ◌∙◌, ap, refl, subst}
use Rattle.sedacts.specs.State.{flush, print_pattern}
use Rattle.sedacts.specs.Run.{RunState}
use Rattle.sedengine.specs.Inside.{run_state_of}
use Rattle.sedengine.specs.declared.next_step.NextStep.TheVariants as p
use Rattle.sedengine.proofs.Ending.{falls_ended, placed_ended, quits, run_kept, tasks_kept}
use Rattle.sedengine.proofs.Leaving.{leaves_seen}
use Rattle.sedengine.proofs.Tasks.{placed}
use Rattle.sedengine.proofs.machine.Machine.quit.Goals as goal

pub returns : goal.returns
returns g c =
    let a = c.self.inside in
    let e = c.args.self.now in
    let e' = c.print_and_flush.new.self in
    let e1 = run_state_of (record a { next_step = p.Ended }) in
    let w = c.print_and_flush.ensures in
    let r = c.print_and_flush.result in
    let at = tasks_kept e1 e' r w.ok w.err in
    let run = run_kept e1 e' r w.ok w.err in
    let L : RunState → Type 0 = λ e. e.state.turns ≤ e'.state.turns in
    record {
      moves = λ files shown ls. quits e e _ ls _ _ _ r c.requires.at (placed_ended a e e' p.Ended files ls (print_pattern ∷ flush ∷ []) _ _ r c.self.view_is at (w.moves files shown ls []));
      falls = falls_ended e e' r c.requires.at (run.same_limits ∙ ap (λ (e : RunState). e.limits) c.self.view_is) (subst L c.self.view_is w.later) at;
      leaves = leaves_seen a e e1 c.self.view_is refl refl (record { devices = w.devices; same = run; kept = w.kept });
    }

pub invariant_of-self : goal.invariant_of-self
invariant_of-self g c = placed c.self.inside c.self.inside.pattern p.Ended c.self.invariant refl c.self.invariant.pattern tt
