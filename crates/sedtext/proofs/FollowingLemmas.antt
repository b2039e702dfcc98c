-- The next occurrence is a match, and lies after the last one.
use Rattle.sedtext.proofs.Words.{◌≡◌, arith, EndsWithin, IfSome, leftmost_longest, length, LiesOn, List, nat_tests, next_span, OccursAfter, Option, Tree, ℕ}
use Rattle.sedtext.proofs.MatchingLemmas.{found-iff}

-- the next occurrence is a match
pub if_occurs : (e : Tree) (w : List ℕ) (last : Option ℕ) (r : Option (ℕ × ℕ)) → EndsWithin (length w) last →
    r ≡ next_span (leftmost_longest e w) (length w) last → IfSome r (LiesOn (length w) last) → IfSome r (OccursAfter e w last)
if_occurs e w last r inside is lies = grind (arith, found-iff, nat_tests)
