use Rattle.std.proofs.Common.{◌≡◌, ◌+◌, ℕ, List, None, Some, Ok}
use Rattle.sedspace.specs.Stream.{lines_left}
use Rattle.sedacts.specs.Run.{InOneCycle, run_setting, at_lines}
use Rattle.sedacts.specs.State.{GivesFiles}
use Rattle.sedengine.specs.Advancing.{LeavesLines, weight}
use Rattle.sedengine.proofs.Runs.{Reached}
use Rattle.sedengine.proofs.machine.Machine.cycle.Given as goal

abbrev pub invariant-moves : goal.invariant-moves
invariant-moves g l = record {
  leaves : LeavesLines g.R.ByteSource.remaining g.R.ByteSource.failures g.R.ByteSource.reference g.O.MeteredSinks.tally g.O.MeteredSinks.count g.T.Texts.text l.fn.self l.self l.fn.lines l.lines l.fn.outputs l.outputs l.fn.texts l.texts (Ok tt);
  reached : l.fn.lines.fault ≡ None → (ls : List (List ℕ)) → lines_left g.R.ByteSource.remaining l.fn.lines ≡ Some ls → (files : ℕ → List ℕ) → GivesFiles (g.T.Texts.text l.fn.texts) files →
      (r : Reached g.R.ByteSource.remaining l.fn.lines l.lines l.fn.self.limits (run_setting l.fn.self files) (at_lines l.fn.self ls) l.self (g.O.MeteredSinks.tally l.fn.outputs) (g.O.MeteredSinks.tally l.outputs))
      × InOneCycle (run_setting l.fn.self files) (at_lines l.fn.self ls) (r.t + 1);
}

abbrev pub decreases-moves : goal.decreases-moves
decreases-moves g l = weight l.self
