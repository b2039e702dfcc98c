use Rattle.std.proofs.Common.{◌≡◌, ◌+◌, ◌*◌, ◌≤◌, length, drop, None}
use Rattle.sedmatch.specs.Following.{EndsWithin}
use Rattle.sedmatch.specs.Occurrences.{KeepsRoom, ServesFrom, owed}
use Rattle.sedacts.specs.SubstituteParts.{occurrences_after}
use Rattle.sedacts.proofs.substitute.end_of_skipped.Given as goal

abbrev pub invariant-occurrences : goal.invariant-occurrences
invariant-occurrences l = record {
  matcher : l.matcher ≡ l.fn.matcher;
  scratch : l.scratch ≡ l.fn.scratch;
  last : EndsWithin (length l.text) l.last;
  kept : KeepsRoom l.fn.matcher l.fn.seeking l.seeking;
  serves : ServesFrom l.fn.matcher l.text l.last l.seeking;
  grows : l.fn.findings.steps ≤ l.findings.steps;
  no_groups : l.findings.group_steps ≡ l.fn.findings.group_steps;
  cost : l.findings.steps + owed (length l.fn.matcher.nodes) (length l.text) l.last l.seeking
      ≤ l.fn.findings.steps + 416 * length l.fn.matcher.nodes * (length l.text + 1);
  skipped : drop l.counter (occurrences_after l.fn.matcher l.text None) ≡ occurrences_after l.fn.matcher l.text l.last;
}
