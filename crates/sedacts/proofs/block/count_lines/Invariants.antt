use Rattle.std.proofs.Common.{◌≡◌, ◌≤◌, ◌-◌, length, take}
use Rattle.std.specs.List.{count_by}
use Rattle.sedspace.specs.Lines.{is_newline}
use Rattle.sedacts.proofs.block.count_lines.Given as goal

abbrev pub invariant-parts : goal.invariant-parts
invariant-parts l = record {
  within : l.place ≤ length l.bytes;
  count : l.count ≡ count_by is_newline (take l.place l.bytes);
}

abbrev pub decreases-parts : goal.decreases-parts
decreases-parts l = length l.bytes - l.place
