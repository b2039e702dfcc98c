-- Laws of the reader over tokens.
use Rattle.std.proofs.Common.{◌≡◌, List, [], ◌∷◌, ◌++◌, refl, ap}
use Rattle.sedre.specs.declared.syntax.Token.{Token}
use Rattle.sedre.specs.Tree.{Tree}
use Rattle.sedre.specs.Stacks.{Nesting, step, nest_all, with_last}

pub run-append : (xs ys : List Token) (s : Nesting) → nest_all (xs ++ ys) s ≡ nest_all ys (nest_all xs s)
run-append [] ys s = refl
run-append (i ∷ xs) ys s = run-append xs ys (step i s)

pub with_last-append : (f : Tree → Tree) (ts : List Tree) (t : Tree) → with_last f (ts ++ t ∷ []) ≡ ts ++ f t ∷ []
with_last-append f [] t = refl
with_last-append f (u ∷ []) t = refl
with_last-append f (u ∷ v ∷ ts) t = ap (λ (r : List Tree). u ∷ r) (with_last-append f (v ∷ ts) t)
