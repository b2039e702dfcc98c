use Rattle.sedpass.proofs.Words.{◌+◌, ◌*◌, length, ◌≡◌, ◌≤◌}
use Rattle.sedpass.proofs.table.Table.intern.Given as goal

abbrev pub invariant-loop-slot : goal.invariant-loop-slot
invariant-loop-slot l = record {
  grows : l.initial.steps ≤ l.steps;
  none : l.slot ≡ l.at → l.steps ≤ l.initial.steps;
  one : l.slot ≡ l.at + 1 → l.steps ≤ l.initial.steps + (2 * length l.prepared.nodes + 1);
  two : l.slot ≡ l.at + 2 → l.steps ≤ l.initial.steps + (4 * length l.prepared.nodes + 2);
}
