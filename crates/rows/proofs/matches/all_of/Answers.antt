use Rattle.std.proofs.Common.{[], ◌∷◌, refl}
use Rattle.rows.proofs.matches.all_of.Goals as goal

pub occurrences-init : goal.occurrences-init
occurrences-init c = record {
  matcher = cc;
  scratch = cc;
  last = tt;
  serves = c.begin.ensures.serves _ (c.args.matcher.now ∷ []) c.args.matcher.now refl c.requires.room;
}

pub occurrences-preserved : goal.occurrences-preserved
occurrences-preserved c = record {
  matcher = cc;
  scratch = cc;
  last = c.in-Some.ensures.occurs.1.1;
  serves = rw c.occurrences.invariant.matcher at c.in-Some.ensures.serves.1;
}
