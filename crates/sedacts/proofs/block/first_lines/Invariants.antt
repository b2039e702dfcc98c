use Rattle.std.proofs.Common.{◌≡◌, ◌≤◌, take}
use Rattle.std.specs.List.{count_by}
use Rattle.sedspace.specs.Lines.{is_newline}
use Rattle.sedspace.specs.Stream.{AreWholeLines}
use Rattle.sedacts.proofs.block.first_lines.Given as goal

abbrev pub invariant-bytes : goal.invariant-bytes
invariant-bytes l = record {
  count : l.count ≡ count_by is_newline (take l.place l.bytes);
  few : l.count ≤ l.most;
  whole : l.count ≡ l.most → AreWholeLines (take l.place l.bytes);
}
