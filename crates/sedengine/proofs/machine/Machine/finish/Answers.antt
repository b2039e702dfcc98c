use Rattle.std.proofs.Common.{rules, ◌∷◌, [], ap, refl}
use Rattle.std.proofs.lemmas.Result.{err_from_is_err_and}
use Rattle.sedengine.proofs.Leaving.{same_flushed, same_turned}
use Rattle.sedengine.proofs.Runs.{SameRun-then, same_seen}
use Rattle.sedengine.proofs.Tasks.{placed}
use Rattle.sedacts.proofs.DecidingGroups.{le_zero}
use Rattle.sedspace.specs.Spaces.{SpaceView}
use Rattle.sedacts.specs.State.{begin, empty_pattern}
use Rattle.sedengine.specs.Inside.{run_state_of}
use Rattle.sedengine.specs.declared.next_step.NextStep.TheVariants as p
use Rattle.sedengine.proofs.Ending.{emptied, finished, finish_stopped}
use Rattle.sedengine.proofs.machine.Machine.finish.Goals as goal

pub returns : goal.returns
returns g c = record {
  moves = λ files shown ls.
      finished c.args.self.now c.print_and_flush.new.self (run_state_of (record c.self.inside { pattern = c.clear.new.self; next_step = p.Begin })) files ls c.args.k _ _ c.requires.at c.requires.end (c.in_ok-print_and_flush.ensures.moves files shown ls (empty_pattern ∷ begin ∷ []))
      (rw c.clear.ensures (ap emptied c.self.view_is));
  falls = search rules;
  leaves = record { devices = c.in_ok-print_and_flush.ensures.devices; same = SameRun-then (same_flushed c.args.self.now c.print_and_flush.new.self _ c.in_ok-print_and_flush.ensures.ok) (same_seen c.self.inside c.print_and_flush.new.self _ c.self.view_is refl refl); kept = c.in_ok-print_and_flush.ensures.kept };
}

pub returns-in_err-print_and_flush : goal.returns-in_err-print_and_flush
returns-in_err-print_and_flush g c =
    let q = err_from_is_err_and c.from_residual.result c.from_residual.ensures.1 in
    record {
      moves = λ files shown ls.
          rw (q.1, q.2) (finish_stopped c.args.self.now c.print_and_flush.new.self files ls c.args.k (empty_pattern ∷ begin ∷ []) _ _ c.in_err-print_and_flush.field-0.0 c.requires.at c.requires.end (c.in_err-print_and_flush.ensures.moves files shown ls (empty_pattern ∷ begin ∷ [])));
      falls = rw q.1 tt;
      leaves = rw (q.1, q.2) (record { devices = c.in_err-print_and_flush.ensures.devices; same = same_turned c.args.self.now c.print_and_flush.new.self _ c.in_err-print_and_flush.ensures.err; kept = c.in_err-print_and_flush.ensures.kept });
    }

pub invariant_of-self : goal.invariant_of-self
invariant_of-self g c = placed c.self.inside c.clear.new.self p.Begin c.self.invariant (ap (λ (s : SpaceView). s.limit) c.clear.ensures) (rw c.clear.ensures le_zero) (ap (λ (s : SpaceView). s.bytes) c.clear.ensures)
