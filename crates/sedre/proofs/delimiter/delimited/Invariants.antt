use Rattle.std.proofs.Common.{◌≡◌, ◌≤◌, ◌-◌, length, drop}
use Rattle.sedre.specs.Brackets.{delimiter_at, first_delimiter}
use Rattle.sedre.proofs.delimiter.delimited.Given as goal

abbrev pub invariant-loop-place : goal.invariant-loop-place
invariant-loop-place l = record {
  low : l.at ≤ l.place;
  rest : delimiter_at l.text l.at l.delimiter ≡ first_delimiter l.delimiter 0 l.place (drop l.place l.text);
}

abbrev pub decreases-loop-place : goal.decreases-loop-place
decreases-loop-place l = length l.text - l.place
