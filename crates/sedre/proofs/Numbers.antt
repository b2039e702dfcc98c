-- The groups of what is read are numbered by their openings.
use Rattle.std.proofs.Common.{ℕ, zero, suc, ◌-◌, ◌≤◌, List, [], ◌∷◌, ◌++◌, Bool, false, Option, Some, None, arith, nat_eq}
use Rattle.sedre.specs.declared.syntax.Token.{Token}
use Rattle.sedre.specs.Tree.{Tree, sequence, either_of, grouped, any_copies, one_or_none}
use Rattle.sedre.specs.Grammar.{concatenation, alternation, with_copies, optional, further, repetition, AreAlternatives, ArePieces, IsPiece, first, another, none, more, subexpression, repeated}
use Rattle.sedre.specs.Finished.{GroupsNumbered}

abbrev AllOf : ℕ → List Tree → Type 0
AllOf most [] = Unit {0}
AllOf most (t ∷ ts) = GroupsNumbered most t × AllOf most ts

more_groups : (m n : ℕ) (t : Tree) → m ≤ n → GroupsNumbered m t → GroupsNumbered n t
more_groups m n (sequence a b) h p = (more_groups m n a h p.0, more_groups m n b h p.1)
more_groups m n (either_of a b) h p = (more_groups m n a h p.0, more_groups m n b h p.1)
more_groups m n (grouped k a) h p = (p.0, omega (arith, p.1, h), more_groups m n a h p.2)
more_groups m n (any_copies a mark) h p = more_groups m n a h p
more_groups m n (one_or_none a mark) h p = more_groups m n a h p
more_groups m n _ h p = tt

all_more : (m n : ℕ) (ts : List Tree) → m ≤ n → AllOf m ts → AllOf n ts
all_more m n [] h p = tt
all_more m n (t ∷ ts) h p = (more_groups m n t h p.0, all_more m n ts h p.1)

all_snoc : (m : ℕ) (ts : List Tree) (t : Tree) → AllOf m ts → GroupsNumbered m t → AllOf m (ts ++ t ∷ [])
all_snoc m [] t p q = (q, tt)
all_snoc m (u ∷ ts) t p q = (p.0, all_snoc m ts t p.1 q)

of_concatenation : (m : ℕ) (ts : List Tree) → AllOf m ts → GroupsNumbered m (concatenation ts)
of_concatenation m [] p = tt
of_concatenation m (t ∷ []) p = p.0
of_concatenation m (t ∷ u ∷ ts) p = (p.0, of_concatenation m (u ∷ ts) p.1)

pub of_alternation : (m : ℕ) (ts : List Tree) → AllOf m ts → GroupsNumbered m (alternation ts)
of_alternation m [] p = tt
of_alternation m (t ∷ []) p = p.0
of_alternation m (t ∷ u ∷ ts) p = (p.0, of_alternation m (u ∷ ts) p.1)

of_copies : (m n : ℕ) (t : Tree) (ts : List Tree) → GroupsNumbered m t → AllOf m ts → AllOf m (with_copies n t ts)
of_copies m zero t ts p q = q
of_copies m (suc n) t ts p q = (p, of_copies m n t ts p q)

of_optional : (m n : ℕ) (t : Tree) (mark : Bool) → GroupsNumbered m t → GroupsNumbered m (optional n t mark)
of_optional m zero t mark p = p
of_optional m (suc n) t mark p = (p, of_optional m n t false p)

of_further : (m n : ℕ) (t : Tree) (mark : Bool) → GroupsNumbered m t → AllOf m (further n t mark)
of_further m zero t mark p = tt
of_further m (suc n) t mark p = (of_optional m n t mark p, tt)

of_repetition : (m least : ℕ) (most : Option ℕ) (t : Tree) → GroupsNumbered m t → GroupsNumbered m (repetition least most t)
of_repetition m least None t p = of_concatenation m (with_copies least t (any_copies t (nat_eq least 0) ∷ [])) (of_copies m least t (any_copies t (nat_eq least 0) ∷ []) p (p, tt))
of_repetition m least (Some most) t p = of_concatenation m (with_copies least t (further (most - least) t (nat_eq least 0))) (of_copies m least t (further (most - least) t (nat_eq least 0)) p (of_further m (most - least) t (nat_eq least 0) p))

mutual
  pub of_alternatives : {g h : ℕ} {is : List Token} {bs : List Tree} → AreAlternatives g is bs h → (g ≤ h) × AllOf h bs
  of_alternatives (first {h = h} {ts = ts} p) = let r = of_pieces p in (r.0, (of_concatenation h ts r.1, tt))
  of_alternatives (another {h = h} {k = k} {bs = bs} {ts = ts} a p) =
      let q = of_alternatives a in
      let r = of_pieces p in
      (omega (arith, q.0, r.0), all_snoc k bs (concatenation ts) (all_more h k bs r.0 q.1) (of_concatenation k ts r.1))

  of_pieces : {g h : ℕ} {is : List Token} {ts : List Tree} → ArePieces g is ts h → (g ≤ h) × AllOf h ts
  of_pieces none = (omega arith, tt)
  of_pieces (more {h = h} {k = k} {ts = ts} {t = t} p q) =
      let a = of_pieces p in
      let b = of_piece q in
      (omega (arith, a.0, b.0), all_snoc k ts t (all_more h k ts b.0 a.1) b.1)

  of_piece : {g h : ℕ} {is : List Token} {t : Tree} → IsPiece g is t h → (g ≤ h) × GroupsNumbered h t
  of_piece (subexpression {g = g} {h = h} {bs = bs} a) = let r = of_alternatives a in (omega (arith, r.0), (omega arith, omega (arith, r.0), of_alternation h bs r.1))
  of_piece (repeated {h = h} least most {t = t} q) = let r = of_piece q in (r.0, of_repetition h least most t r.1)
  of_piece _ = (omega arith, tt)
