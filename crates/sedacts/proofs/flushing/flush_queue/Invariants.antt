use Rattle.std.proofs.Common.{◌≡◌, ◌≤◌, ◌∷◌, ℕ, List, drop, Ok}
use Rattle.std.specs.Io.KnownBytes.{Keeps}
use Rattle.sedacts.specs.State.{Task, flush, MachineState, Setting, GivesFiles}
use Rattle.sedacts.specs.Calls.{Delivers}
use Rattle.sedacts.specs.Ends.{WithinLimits}
use Rattle.sedacts.specs.Keeping.{entries_of}
use Rattle.sedacts.proofs.Entries.{Reached, at_entries}
use Rattle.sedacts.proofs.flushing.flush_queue.Given as goal

abbrev pub invariant-loop-index : goal.invariant-loop-index
invariant-loop-index g l = record {
  limit : l.build.limit ≡ l.fn.build.limit;
  later : l.fn.turns ≤ l.turns;
  most : l.turns ≤ l.limits.turns;
  kept : (j : ℕ) → Keeps (g.T.Texts.text l.fn.texts j) (g.T.Texts.text l.texts j);
  output : Delivers g.O.MeteredSinks.tally g.O.MeteredSinks.count l.fn.outputs l.outputs (Ok tt);
  reached : (setting : Setting) → GivesFiles (g.T.Texts.text l.fn.texts) setting.files → (s : MachineState) (rest : List Task) →
      s.tasks ≡ flush ∷ rest → s.queue ≡ entries_of l.script l.queue.items → s.turns ≡ l.fn.turns → WithinLimits l.limits s →
      Reached l.limits setting s (at_entries s (entries_of l.script (drop l.index l.queue.items)) (flush ∷ rest) l.turns)
      (g.O.MeteredSinks.tally l.fn.outputs) (g.O.MeteredSinks.tally l.outputs);
}
