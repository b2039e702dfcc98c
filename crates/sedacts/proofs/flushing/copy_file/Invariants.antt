use Rattle.std.proofs.Common.{◌≡◌, ◌+◌, ◌-◌, ◌≤◌, ℕ, List, Some, length, take, Ok}
use Rattle.std.specs.Io.KnownBytes.{Keeps}
use Rattle.sedacts.specs.Move.{to_sink}
use Rattle.sedacts.specs.Meters.{WereSent}
use Rattle.sedacts.specs.Calls.{Delivers}
use Rattle.sedacts.proofs.flushing.copy_file.Given as goal

abbrev pub invariant-pieces : goal.invariant-pieces
invariant-pieces g l = record {
  limit : l.build.limit ≡ l.fn.build.limit;
  turns : l.turns ≡ l.fn.turns + l.offset;
  most : l.turns ≤ l.limits.turns;
  kept : (j : ℕ) → Keeps (g.T.Texts.text l.fn.texts j) (g.T.Texts.text l.texts j);
  output : Delivers g.O.MeteredSinks.tally g.O.MeteredSinks.count l.fn.outputs l.outputs (Ok tt);
  copied : (bytes : List ℕ) → g.T.Texts.text l.fn.texts l.file ≡ Some bytes →
      (l.offset ≤ length bytes)
      × WereSent (g.O.MeteredSinks.tally l.fn.outputs) (g.O.MeteredSinks.tally l.outputs) (to_sink 0 (take l.offset bytes));
}

abbrev pub decreases-pieces : goal.decreases-pieces
decreases-pieces g l = l.limits.turns - l.turns
