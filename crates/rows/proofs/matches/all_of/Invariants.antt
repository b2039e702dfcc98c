use Rattle.std.proofs.Common.{◌≡◌, length}
use Rattle.sedmatch.specs.Following.{EndsWithin}
use Rattle.sedmatch.specs.Occurrences.{ServesFrom}
use Rattle.rows.proofs.matches.all_of.Given as goal

abbrev pub invariant-occurrences : goal.invariant-occurrences
invariant-occurrences l = record {
  matcher : l.matcher ≡ l.fn.matcher;
  scratch : l.scratch ≡ l.fn.scratch;
  last : EndsWithin (length l.text) l.last;
  serves : ServesFrom l.fn.matcher l.text l.last l.seeking;
}
