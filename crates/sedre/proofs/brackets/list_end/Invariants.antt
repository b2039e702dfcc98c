use Rattle.std.proofs.Common.{◌≡◌, ◌<◌, ◌≤◌, ◌-◌, ◌+◌, ◌==◌, length, drop}
use Rattle.sedre.specs.Brackets.{list_end, elements}
use Rattle.sedre.proofs.brackets.list_end.Given as goal

abbrev pub invariant-loop-place : goal.invariant-loop-place
invariant-loop-place l = record {
  after : l.at < l.place;
  low : l.start ≤ l.place;
  inside : l.place ≤ length l.text;
  end : list_end l.delimiter (l.at + 1) (drop (l.at + 1) l.text) ≡ (elements l.delimiter (l.place == l.start) 0 l.place (drop l.place l.text)).1;
}

abbrev pub decreases-loop-place : goal.decreases-loop-place
decreases-loop-place l = length l.text - l.place
