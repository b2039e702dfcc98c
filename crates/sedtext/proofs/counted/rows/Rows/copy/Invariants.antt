use Rattle.sedtext.proofs.Words.{◌+◌, ◌≡◌, slice_index_or}
use Rattle.sedtext.proofs.WordLemmas.{Written}
use Rattle.sedtext.proofs.counted.rows.Rows.copy.Given as goal

abbrev pub invariant-loop-x : goal.invariant-loop-x
invariant-loop-x l =
    Written (λ k word. word ≡ slice_index_or l.other-inside.words.all (l.from + k) 0) l.initial.words.all l.words.all l.to l.x × (l.words.there ≡ l.initial.words.there)
