-- Trees written out one after another, each with its root last.
use Rattle.std.proofs.Common.{◌≡◌, ℕ, ◌+◌, ◌<◌, length, List, [], ◌∷◌, ◌++◌, refl, ap, ◌∙◌, sym, append_assoc, arith, length-append, Option, Some}
use Rattle.std.specs.Option.{option_to_list}
use Rattle.sedre.specs.declared.types.Node.{Node}
use Rattle.sedre.specs.Tree.{Tree, null_string, sequence, either_of, grouped, any_copies, one_or_none, size}
use Rattle.sedre.specs.Stacks.{postorder, written_trees, total}

pub size_positive : (t : Tree) → 0 < size t
size_positive null_string = omega arith
size_positive _ = omega arith

pub length-postorder : (base : ℕ) (t : Tree) → length (postorder base t) ≡ size t
length-postorder base (sequence a b) = simp (length-append, length-postorder base a, length-postorder (base + size a) b) (omega arith)
length-postorder base (either_of a b) = simp (length-append, length-postorder base a, length-postorder (base + size a) b) (omega arith)
length-postorder base (grouped k a) = simp (length-append, length-postorder base a) (omega arith)
length-postorder base (any_copies a first) = simp (length-append, length-postorder base a) (omega arith)
length-postorder base (one_or_none a first) = simp (length-append, length-postorder base a) (omega arith)
length-postorder base _ = refl

pub written-append : (base : ℕ) (ts us : List Tree) → written_trees base (ts ++ us) ≡ written_trees base ts ++ written_trees (base + total ts) us
written-append base [] us = ap (λ (n : ℕ). written_trees n us) (omega arith)
written-append base (t ∷ ts) us = ap (λ (x : List Node). postorder base t ++ x) (written-append (base + size t) ts us ∙ ap (λ (n : ℕ). written_trees (base + size t) ts ++ written_trees n us) (omega arith)) ∙ sym (append_assoc (postorder base t) (written_trees (base + size t) ts) _)

pub length-written : (base : ℕ) (ts : List Tree) → length (written_trees base ts) ≡ total ts
length-written base [] = refl
length-written base (t ∷ ts) = simp (length-append, length-postorder base t, length-written (base + size t) ts) refl

-- the last elements of equal lists are equal
pub snoc_last : {A : Type 0} (xs ys : List A) (x y : A) → xs ++ x ∷ [] ≡ ys ++ y ∷ [] → (xs ≡ ys) × (x ≡ y)
snoc_last [] [] x y h = (refl, cc)
snoc_last [] (z ∷ []) x y h = absurd cc
snoc_last [] (z ∷ w ∷ ys) x y h = absurd cc
snoc_last (z ∷ []) [] x y h = absurd cc
snoc_last (z ∷ w ∷ xs) [] x y h = absurd cc
snoc_last {A = A} (v ∷ xs) (w ∷ ys) x y h =
    let heads : v ≡ w = cc in
    let tails : xs ++ x ∷ [] ≡ ys ++ y ∷ [] = cc in
    let r = snoc_last xs ys x y tails in
    (ap (λ (q : A). q ∷ xs) heads ∙ ap (λ (q : List A). w ∷ q) r.0, r.1)

pub written-append_0 : (ts us : List Tree) → written_trees 0 (ts ++ us) ≡ written_trees 0 ts ++ written_trees (total ts) us
written-append_0 ts us = written-append 0 ts us ∙ ap (λ (n : ℕ). written_trees 0 ts ++ written_trees n us) (omega arith)

-- what a pop leaves, and what it gives
pub popped : {A : Type 0} (xs ys : List A) (o : Option A) (x : A) → xs ≡ ys ++ option_to_list o → o ≡ Some x → xs ≡ ys ++ x ∷ []
popped xs ys o x e s = e ∙ ap (λ o. ys ++ option_to_list o) s

pub split_last : (xs : List Tree) → 0 < length xs → (ys : List Tree) × (y : Tree) × (xs ≡ ys ++ y ∷ [])
split_last [] h = absurd (omega (arith, h))
split_last (x ∷ []) h = ([], x, refl)
split_last (x ∷ y ∷ xs) h = let r = split_last (y ∷ xs) (omega arith) in (x ∷ r.0, r.1, ap (λ (q : List Tree). x ∷ q) r.2)

pub total-append : (ts us : List Tree) → total (ts ++ us) ≡ total ts + total us
total-append [] us = omega arith
total-append (t ∷ ts) us = omega (arith, total-append ts us)
