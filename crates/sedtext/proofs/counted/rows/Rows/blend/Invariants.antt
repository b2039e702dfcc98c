use Rattle.sedtext.proofs.Words.{◌≡◌}
use Rattle.sedtext.proofs.WordLemmas.{Blended, Written}
use Rattle.sedtext.proofs.counted.rows.Rows.blend.Given as goal

abbrev pub invariant-loop-x : goal.invariant-loop-x
invariant-loop-x l =
    Written (Blended l.how l.initial.words.all l.first l.second) l.initial.words.all l.words.all l.to l.x × (l.words.there ≡ l.initial.words.there)
