-- At most one outcome belongs to a span and the groups before it.
use Rattle.sedtext.proofs.Words.{◌<◌, ◌∙◌, ◌≡◌, ◌⊎◌, any_copies, arith, Captures, either_of, forget, grouped, IsTrue, LastCopy, List, Matches, no_copy, one_or_none, only, refl, sequence, SpansOfGroups, sym, then_copy, Tree, ℕ}

LastCopy-unique : (R : ℕ → ℕ → Type 0) (j i c : ℕ) → LastCopy R j i c → (d : ℕ) → LastCopy R j i d → c ≡ d
LastCopy-unique R j i c (only _ lt r) d (only _ lt' r') = refl
LastCopy-unique R j i c (only _ lt r) d (then_copy _ k _ up low r' rest most last) = grind (arith, most j lt r no_copy)
LastCopy-unique R j i c (then_copy _ k _ up low r rest most last) d (only _ lt r') = grind (arith, most j lt r' no_copy)
LastCopy-unique R j i c (then_copy _ k _ up low r rest most last) d (then_copy _ l _ up' low' r' rest' most' last') = grind (arith, LastCopy-unique R j k c last d)

-- copies have one outcome, where one of them has one, and one of the null string
copied_unique : (i j : ℕ) (F S : Type 0) (P Q : SpansOfGroups → Type 0) (old new other : SpansOfGroups) → ((g h : SpansOfGroups) → P g → P h → g ≡ h) → ((g h : SpansOfGroups) → Q g → Q h → g ≡ h) →
    (((i < j) × Q new) ⊎ (((i ≡ j) × F × S × P new) ⊎ ((i ≡ j) × ((F → S → ⊥) × (new ≡ old))))) →
    (((i < j) × Q other) ⊎ (((i ≡ j) × F × S × P other) ⊎ ((i ≡ j) × ((F → S → ⊥) × (other ≡ old))))) → new ≡ other
copied_unique i j F S P Q old new other one two h k = grind arith

-- at most one outcome
pub Captures-unique : (e : Tree) (w : List ℕ) (i j : ℕ) (old new other : SpansOfGroups) → Captures e w i j old new → Captures e w i j old other → new ≡ other
Captures-unique (sequence a b) w i j old new other h k = grind (arith, Captures-unique a w i, Captures-unique b w)
Captures-unique (either_of a b) w i j old new other h k = grind (arith, Captures-unique a w i j old new other, Captures-unique b w i j old new other)
Captures-unique (grouped n a) w i j old new other h k = grind (arith, Captures-unique a w i j (forget (grouped n a) old) h.0 k.0 h.1 k.1)
Captures-unique (any_copies a first) w i j old new other h k =
    copied_unique i j (IsTrue first) (Matches a w i i) (Captures a w i i (forget a old)) (λ g. (c : ℕ) × LastCopy (Matches a w) j i c × Captures a w c j (forget a old) g) old new other
    (Captures-unique a w i i (forget a old))
    (λ g g' l m. grind (arith, LastCopy-unique (Matches a w) j i, Captures-unique a w l.0 j (forget a old) g g' l.2)) h k
Captures-unique (one_or_none a first) w i j old new other h k = grind (arith, Captures-unique a w i)
Captures-unique _ w i j old new other h k = h ∙ sym k
