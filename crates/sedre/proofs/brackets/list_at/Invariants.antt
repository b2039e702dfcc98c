use Rattle.std.proofs.Common.{◌≡◌, ◌<◌, ◌≤◌, ◌-◌, length}
use Rattle.sedre.specs.Sets.{union, no_byte}
use Rattle.sedre.specs.Brackets.{list_at}
use Rattle.sedre.proofs.ListLemmas.{list_from}
use Rattle.sedre.proofs.brackets.list_at.Given as goal

abbrev pub invariant-loop-place : goal.invariant-loop-place
invariant-loop-place l = record {
  after : l.at < l.place;
  low : l.start ≤ l.place;
  inside : l.place ≤ length l.text;
  normal : union l.set no_byte ≡ l.set;
  whole : list_at l.folded l.delimiter l.text l.at ≡ list_from l.delimiter l.text l.folded l.negated l.at l.start l.place l.set;
}

abbrev pub decreases-loop-place : goal.decreases-loop-place
decreases-loop-place l = length l.text - l.place
